use Rattle.std.proofs.Common.{sym}
use Rattle.hj_driver.proofs.MayClose.{closing_of-same, may_close}
use Rattle.hj_driver.proofs.Standing.{stands-new, stands-closing, stands-count}
use Rattle.hj_driver.proofs.laws.drivers_follow_their_logs.Goals as goal

pub returns-clause-new : goal.returns-clause-new
returns-clause-new g c = λ flight. stands-new _ flight

pub returns-clause-close : goal.returns-clause-close
returns-clause-close g c = λ driver log stands sends. let free = may_close driver sends in stands-closing driver log stands free.0 free.1

pub returns-clause-answer : goal.returns-clause-answer
returns-clause-answer g c = λ driver log stands. closing_of-same driver log stands

pub returns-clause-count : goal.returns-clause-count
returns-clause-count g c = λ driver log stands. sym (stands-count driver log stands)
