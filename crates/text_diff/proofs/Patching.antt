-- What is shown of a difference makes the new text of the old one.
use Rattle.std.proofs.Common.{◌≡◌, ℕ, ◌+◌, ◌-◌, Bool, true, false, List, [], ◌∷◌, ◌++◌, length, take, drop, refl, sym, ap, ◌∙◌, subst, arith, append_assoc, append-nil, add-zero, length-append}
use Rattle.std.proofs.Math.Seq.{drop-append-add, drop-append_seam, take-append_seam}
use Rattle.text_diff.specs.declared.step.Mark.{Mark}
use Rattle.text_diff.specs.declared.step.Mark.TheVariants.{Kept, Hidden, Removed, Added}
use Rattle.text_diff.specs.declared.step.Step.{Step}
use Rattle.text_diff.specs.Context.{with_context}
use Rattle.text_diff.specs.Patch.{PatchGivesNew, patched, shown_from}
use Rattle.text_diff.specs.Script.{is_hidden, new_lines, new_part, old_lines, old_part}
use Rattle.text_diff.proofs.Contexts.{context_new, context_old}

-- The lines in front are kept, and so many lines come before them.
abbrev pub Patches : List Step → Type 0
Patches steps =
    (at : ℕ) (front : List (List ℕ)) → patched at (shown_from (at + length front) steps) (front ++ old_lines steps) ≡ front ++ new_lines steps

-- a line that is shown
shown_line : (s : Step) (ss : List Step) → Patches ss → (at : ℕ) (front : List (List ℕ))
    → patched at ((at + length front, s) ∷ shown_from (at + length front + length (old_part s)) ss) (front ++ (old_part s ++ old_lines ss)) ≡ front ++ (new_part s ++ new_lines ss)
shown_line s ss rest at front =
    let k = at + length front in
    let gone : k - at ≡ length front = omega arith in
    let all = front ++ (old_part s ++ old_lines ss) in
    let stays : take (k - at) all ≡ front = rw gone (take-append_seam front (old_part s ++ old_lines ss)) in
    let after : drop (k - at + length (old_part s)) all ≡ old_lines ss =
    rw gone (drop-append-add front (old_part s ++ old_lines ss) (length (old_part s)) ∙ drop-append_seam (old_part s) (old_lines ss)) in
    let n = k + length (old_part s) in
    let here : patched n (shown_from (n + 0) ss) (old_lines ss) ≡ new_lines ss = rest n [] in
    let there : patched n (shown_from n ss) (old_lines ss) ≡ new_lines ss = rw add-zero at here in
    rw (stays, after, there) (append_assoc front (new_part s) (new_lines ss))

-- a line that is not shown is one more in front
hidden_line : (line : List ℕ) (ss : List Step) → Patches ss → (at : ℕ) (front : List (List ℕ))
    → patched at (shown_from (at + length front + 1) ss) (front ++ line ∷ old_lines ss) ≡ front ++ line ∷ new_lines ss
hidden_line line ss rest at front =
    let here : patched at (shown_from (at + length (front ++ line ∷ [])) ss) ((front ++ line ∷ []) ++ old_lines ss) ≡ (front ++ line ∷ []) ++ new_lines ss = rest at (front ++ line ∷ []) in
    let n : at + length (front ++ line ∷ []) ≡ at + length front + 1 = omega (arith, length-append front (line ∷ [])) in
    let moved = rw n at here in
    rw (append_assoc front (line ∷ []) (old_lines ss), append_assoc front (line ∷ []) (new_lines ss)) at moved

patch_line : (mark : Mark) (s : Step) (ss : List Step) → s.mark ≡ mark → Patches ss → Patches (s ∷ ss)
patch_line Kept s ss e rest at front = let line = shown_line s ss rest at front in rw e (rw e at line)
patch_line Hidden s ss e rest at front = rw e (hidden_line s.line.now ss rest at front)
patch_line Removed s ss e rest at front = let line = shown_line s ss rest at front in rw e (rw e at line)
patch_line Added s ss e rest at front = let line = shown_line s ss rest at front in rw e (rw e at line)

patch : (steps : List Step) → Patches steps
patch [] at front = refl
patch (s ∷ ss) at front = patch_line s.mark s ss refl (patch ss) at front

pub gives_new : PatchGivesNew
gives_new script =
    let steps = with_context 0 script in
    let here : patched 0 (shown_from 0 steps) (old_lines steps) ≡ new_lines steps = patch steps 0 [] in
    subst (λ (n : List (List ℕ)). patched 0 (shown_from 0 steps) (old_lines script) ≡ n) (context_new 0 script)
    (subst (λ (o : List (List ℕ)). patched 0 (shown_from 0 steps) o ≡ new_lines steps) (context_old 0 script) here)
