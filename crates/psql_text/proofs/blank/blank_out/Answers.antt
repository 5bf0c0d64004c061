use Rattle.std.proofs.Common.{◌≡◌, ℕ, get_or, subst, arith}
use Rattle.psql_text.specs.Psql.{byte_blanked}
use Rattle.psql_text.proofs.Blanks.{blanked_by}
use Rattle.psql_text.proofs.blank.blank_out.Goals as goal

pub returns : goal.returns
returns c =
    let t = c.args.text.now.items in
    let u = c.loop-at.text.items in
    let p = c.args.part in
    let all : c.loop-at.at ≡ p.to = omega arith in
    blanked_by p t u c.loop-at.invariant.same (λ k less. subst (λ (x : ℕ). get_or u k 0 ≡ byte_blanked (record { kind = p.kind; from = p.from; to = x }) t k) all (c.loop-at.invariant.each k less))
