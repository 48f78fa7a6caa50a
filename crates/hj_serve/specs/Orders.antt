-- The parts of an order, as a run takes them.
use Rattle.hj_opening.specs.Words as words
use Rattle.hj_serve.specs.declared.recipe.Recipe.{Recipe}

abbrev pub recipe_seen : Recipe → words.Recipe
recipe_seen recipe = record { rows = recipe.rows; keys = recipe.keys; seed = recipe.seed; window = recipe.window.rows }
