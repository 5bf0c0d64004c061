use Rattle.std.proofs.Common.{◌≡◌, ◌∙◌, ◌++◌, length, ap, sym, subst, arith}
use Rattle.std.specs.Str.{IsUtf8}
use Rattle.squawk_generate.specs.Made.{group, made}
use Rattle.squawk_generate.proofs.MadeText.{made_none, made_more, made_is_utf8, made_is_text}
use Rattle.squawk_generate.proofs.made.made_text.Goals as goal

pub loop-i-init : goal.loop-i-init
loop-i-init c = c.in_ok-text.ensures.items ∙ sym made_none

pub loop-i-preserved : goal.loop-i-preserved
loop-i-preserved c = c.in_ok-push_group.ensures ∙ ap (λ t. t ++ group c.loop-i.i) c.loop-i.invariant ∙ sym (made_more c.loop-i.i)

pub returns-clause-utf8 : goal.returns-clause-utf8
returns-clause-utf8 c = subst IsUtf8 (sym c.loop-i.invariant) (made_is_utf8 c.loop-i.i (omega arith))

pub returns-clause-short : goal.returns-clause-short
returns-clause-short c =
    let short = (made_is_text c.loop-i.i (omega arith)).short in
    let all : length c.loop-i.text.items ≡ length (made c.loop-i.i) = ap length c.loop-i.invariant in
    omega arith
