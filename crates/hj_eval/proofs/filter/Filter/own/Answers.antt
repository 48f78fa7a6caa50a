use Rattle.std.proofs.Common.{false, ap, rules, ◌∙◌}
use Rattle.std.proofs.lemmas.Int.{to_z-of_z}
use Rattle.std.specs.Prelude.{FitsSigned}
use Rattle.std.specs.Int.{w128}
use Rattle.hj_eval.specs.Filter.{difference, key_of, number_of}
use Rattle.hj_eval.proofs.Filtering.{key_cut, no_key}
use Rattle.hj_eval.proofs.filter.Filter.own.Goals as goal

pub returns-in-Some : goal.returns-in-Some
returns-in-Some c =
    let fits : FitsSigned w128 c.in-Some.own = search rules in
    key_cut (difference (number_of c.args.side c.args.row.now false) c.args.self.now.first.now c.args.self.now.second.now) c.in-Some.own c.key_of.result c.in-Some.ensures
    (c.key_of.ensures ∙ ap key_of (to_z-of_z w128 c.in-Some.own fits))

pub returns-in-None : goal.returns-in-None
returns-in-None c = no_key (difference (number_of c.args.side c.args.row.now false) c.args.self.now.first.now c.args.self.now.second.now) c.in-None.ensures
