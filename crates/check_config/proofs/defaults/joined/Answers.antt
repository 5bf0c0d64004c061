use Rattle.std.proofs.Common.{◌≡◌, ◌∙◌, ◌+◌, ◌++◌, ◌∷◌, [], ap, drop, string_bytes}
use Rattle.squawk_run.specs.squawk_words.Words.{Text}
use Rattle.check_config.proofs.Joins.{join_begun, join_next, tail_of}
use Rattle.check_config.proofs.defaults.joined.Goals as goal

pub loop-i-init : goal.loop-i-init
loop-i-init c =
    let names = c.args.names.now in
    ap (λ (t : Text). t ++ tail_of (drop 1 names)) c.in_ok-text.ensures.ok ∙ join_begun names c.get.result.now c.get.ensures

pub loop-i-preserved : goal.loop-i-preserved
loop-i-preserved c =
    let l = c.loop-i in
    let names = c.args.names.now in
    let name = c.get-in-loop-i.result.now in
    let bytes : string_bytes c.push_str-in-loop-i.new.self ≡ (string_bytes l.text ++ 44 ∷ []) ++ name = c.in_ok-push_str-2.ensures.bytes ∙ ap (λ (t : Text). t ++ name) c.in_ok-push_str.ensures.bytes in
    ap (λ (t : Text). t ++ tail_of (drop (l.i + 1) names)) bytes ∙ (join_next (string_bytes l.text) names l.i name c.get-in-loop-i.ensures ∙ l.invariant)
