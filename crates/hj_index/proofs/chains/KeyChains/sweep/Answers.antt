use Rattle.std.proofs.Common.{nat_eq}
use Rattle.std.specs.HashMap.{get}
use Rattle.hj_index.proofs.ChainLinks.{linked-keyed, linked-known}
use Rattle.hj_index.proofs.chains.KeyChains.sweep.Goals as goal

pub link_anew-requires-clause-known : goal.link_anew-requires-clause-known
link_anew-requires-clause-known c = linked-known c.args.self.now.own c.args.self.now.base c.args.self.now.places.items (get nat_eq c.args.self.now.last) c.requires.linked

pub link_anew-requires-clause-keyed : goal.link_anew-requires-clause-keyed
link_anew-requires-clause-keyed c = linked-keyed c.args.self.now.own c.args.self.now.base c.args.self.now.places.items (get nat_eq c.args.self.now.last) c.requires.linked
