use Rattle.std.proofs.lemmas.Result.{IfOk-weaker}
use Rattle.fix_text.proofs.Beside.{beside_made}
use Rattle.fix_text.proofs.others.is_beside.Goals as goal

pub returns : goal.returns
returns c = λ settings known.
    IfOk-weaker c.is_made.result _ _
    (λ is made. beside_made c.args.wide settings c.args.file.now c.args.u.now c.args.v.now c.is_same_part.result c.is_offered.result is c.if-not-is_same_part.false c.if-not-is_offered.false
    c.is_same_part.ensures (c.is_offered.ensures settings known) made)
    (c.is_made.ensures settings known)
