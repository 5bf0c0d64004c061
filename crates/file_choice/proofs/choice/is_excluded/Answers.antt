use Rattle.std.proofs.Common.{◌≡◌, ◌∙◌, sym}
use Rattle.path_pattern.specs.Patterns.{parts_of}
use Rattle.path_pattern.specs.Rows.{matched_by}
use Rattle.squawk_words.specs.Words.{Text}
use Rattle.file_choice.proofs.Steps.{any_here, any_next}
use Rattle.file_choice.proofs.choice.is_excluded.Goals as goal

pub returns-then-branch : goal.returns-then-branch
returns-then-branch c =
    let l = c.loop-i in
    let path = c.args.path.now in
    let value : matched_by (parts_of c.get.result.now) path ≡ c.in_ok-is_match.field-0 = cc (c.in_ok-is_match.ensures.value, c.as_bytes.ensures.value, c.as_bytes-in-loop-i.ensures.value) in
    sym (sym l.invariant ∙ any_here (λ (pattern : Text). matched_by (parts_of pattern) path) c.args.patterns.now l.i c.get.result.now c.get.ensures (value ∙ c.if-branch.true))

pub loop-i-preserved : goal.loop-i-preserved
loop-i-preserved c =
    let l = c.loop-i in
    let path = c.args.path.now in
    let value : matched_by (parts_of c.get.result.now) path ≡ c.in_ok-is_match.field-0 = cc (c.in_ok-is_match.ensures.value, c.as_bytes.ensures.value, c.as_bytes-in-loop-i.ensures.value) in
    sym (any_next (λ (pattern : Text). matched_by (parts_of pattern) path) c.args.patterns.now l.i c.get.result.now c.get.ensures (value ∙ c.if-branch.false)) ∙ l.invariant
