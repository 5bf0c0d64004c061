use Rattle.std.proofs.Common.{◌≡◌, ◌∙◌, ◌+◌, ap, cond, sym, Bool, true, false, not, ◌||◌, List, [], ◌∷◌, ◌++◌, take, rules, arith}
use Rattle.std.proofs.lemmas.Grind.{common_steps}
use Rattle.std.proofs.lemmas.Bool.{not-false, not-true}
use Rattle.std.specs.Str.{bytes_eq}
use Rattle.squawk_words.specs.Words.{Text}
use Rattle.file_choice.specs.Choice.{bare, chosen_of, is_among, is_excluded}
use Rattle.file_choice.proofs.Steps.{among_next, chosen_from, left_out, taken}
use Rattle.file_choice.proofs.choice.chosen.Goals as goal
use Rattle.file_choice.proofs.choice.chosen.Goals.{then-branch+in_ok-push, else-branch}

pub loop-i-preserved : goal.loop-i-preserved
loop-i-preserved c =
    let l = c.loop-i in
    let names = c.args.names.now in
    let patterns = c.args.patterns.now in
    let name = c.get-name.result.now in
    let is_out : Bool = is_among (take l.i names) name || is_excluded patterns (bare name) in
    let chosen : c.in_ok-is_chosen.field-0 ≡ not is_out =
    c.in_ok-is_chosen.ensures.chosen ∙ ap (λ (a : Bool). not (a || is_excluded patterns (bare name))) (l.invariant.seen name) in
    let done : chosen_from patterns names c.if-branch.all (l.i + 1) ≡ chosen_of patterns names =
    elim c.if-branch.branch [
      | then-branch+in_ok-push w ↦
          let more : c.if-branch.all ≡ l.all ++ name ∷ [] = first_of (cc, search rules, grind (arith, common_steps)) in
          let kept : is_out ≡ false = not-true is_out (sym chosen ∙ w.if-branch.true) in
          ap (λ (all : List Text). chosen_from patterns names all (l.i + 1)) more ∙ (sym (taken patterns names l.all l.i name c.get-name.ensures kept) ∙ l.invariant.done)
      | else-branch w ↦
          let same : c.if-branch.all ≡ l.all = first_of (cc, search rules) in
          let out : is_out ≡ true = not-false is_out (sym chosen ∙ w.if-branch.false) in
          ap (λ (all : List Text). chosen_from patterns names all (l.i + 1)) same ∙ (sym (left_out patterns names l.all l.i name c.get-name.ensures out) ∙ l.invariant.done)
    ] in
    record {
      done = done;
      seen = λ other.
          c.in_ok-is_chosen.ensures.seen other
          ∙ (ap (λ (before : Bool). cond (bytes_eq name other) true before) (l.invariant.seen other) ∙ among_next names l.i name other c.get-name.ensures);
    }
