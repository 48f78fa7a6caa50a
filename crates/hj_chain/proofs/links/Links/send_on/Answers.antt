use Rattle.hj_chain.proofs.Sending.{left_alone, passed_left, passed_nowhere, passed_right, right_alone}
use Rattle.hj_chain.proofs.links.Links.send_on.Goals as goal

pub returns-in-EndR : goal.returns-in-EndR
returns-in-EndR g c =
    passed_left c.args.place c.args.cores c.args.msg c.args.self.now c.put_left.new.self (left_alone c.args.place c.args.cores c.args.msg c.in-EndR.is) c.put_left.ensures

pub returns-in-EndS : goal.returns-in-EndS
returns-in-EndS g c =
    passed_right c.args.place c.args.cores c.args.msg c.args.self.now c.put_right.new.self (right_alone c.args.place c.args.cores c.args.msg c.in-EndS.is) c.put_right.ensures

pub returns-in-AckS : goal.returns-in-AckS
returns-in-AckS g c = passed_nowhere c.args.place c.args.cores c.args.msg c.args.self.now c.in-AckS.field-0 c.in-AckS.is
