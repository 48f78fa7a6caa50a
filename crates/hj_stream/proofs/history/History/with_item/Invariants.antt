use Rattle.std.proofs.Common.{[], ◌∷◌, ◌++◌}
use Rattle.hj_stream.proofs.history.History.with_item.Given as goal

abbrev pub ghost-told_by : goal.ghost-told_by
ghost-told_by g a = a._first.now.items ++ a._second.now ∷ []
