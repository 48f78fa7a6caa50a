use Rattle.hj_msg.proofs.Prompt.{emits_all_but_last}
use Rattle.hj_msg.proofs.emission.silence_holds_back_few.Goals as goal

pub returns : goal.returns
returns g c = λ run is most quiet lists of_run told pair joined. emits_all_but_last run is most quiet lists of_run told pair joined
