use Rattle.std.proofs.Common.{◌≡◌, sym, ◌∙◌, rules, None}
use Rattle.hj_net.proofs.PortWord.{refused}
use Rattle.hj_net.specs.Address.{port_of}
use Rattle.hj_net.proofs.address.read_port.Goals as goal

pub returns-in_err-port : goal.returns-in_err-port
returns-in_err-port c =
    let none : port_of c.args.digits.now ≡ None =
    refused c.args.digits.now c.parse.result (sym c.ok.ensures.value ∙ c.in_err-port.was) c.parse.ensures.value.0 (sym c.if-not-are_digits.ensures) in
    search (rules, none)
