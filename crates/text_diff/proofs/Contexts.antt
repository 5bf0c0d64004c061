-- The texts of lines of which some are hidden.
use Rattle.std.proofs.Common.{◌≡◌, ℕ, Bool, true, false, ◌||◌, List, [], ◌∷◌, ◌++◌, refl, ap, ◌∙◌, if◌then◌else◌, nat_lt}
use Rattle.text_diff.specs.declared.step.Mark.{Mark}
use Rattle.text_diff.specs.declared.step.Mark.TheVariants.{Kept, Hidden, Removed, Added}
use Rattle.text_diff.specs.declared.step.Step.{Step}
use Rattle.text_diff.specs.Context.{is_near, left_after, seen, with_context}
use Rattle.text_diff.specs.Script.{is_change, new_lines, new_part, old_lines, old_part}

-- a line, hidden or not, by what becomes of it
seen_old : (mark : Mark) (s : Step) (a b : Bool) → s.mark ≡ mark → old_part (if is_change s.mark || a || b then s else record { mark = Hidden; line = s.line }) ≡ old_part s
seen_old Kept s true b e = rw e refl
seen_old Kept s false true e = rw e refl
seen_old Kept s false false e = rw e refl
seen_old Hidden s true b e = rw e refl
seen_old Hidden s false true e = rw e refl
seen_old Hidden s false false e = rw e refl
seen_old Removed s a b e = rw e refl
seen_old Added s a b e = rw e refl

seen_new : (mark : Mark) (s : Step) (a b : Bool) → s.mark ≡ mark → new_part (if is_change s.mark || a || b then s else record { mark = Hidden; line = s.line }) ≡ new_part s
seen_new Kept s true b e = rw e refl
seen_new Kept s false true e = rw e refl
seen_new Kept s false false e = rw e refl
seen_new Hidden s true b e = rw e refl
seen_new Hidden s false true e = rw e refl
seen_new Hidden s false false e = rw e refl
seen_new Removed s a b e = rw e refl
seen_new Added s a b e = rw e refl

pub context_old : (left : ℕ) (steps : List Step) → old_lines (with_context left steps) ≡ old_lines steps
context_old left [] = refl
context_old left (s ∷ ss) =
    ap (λ part. part ++ old_lines (with_context (left_after left s) ss)) (seen_old s.mark s (nat_lt 0 left) (is_near ss) refl)
    ∙ ap (λ rest. old_part s ++ rest) (context_old (left_after left s) ss)

pub context_new : (left : ℕ) (steps : List Step) → new_lines (with_context left steps) ≡ new_lines steps
context_new left [] = refl
context_new left (s ∷ ss) =
    ap (λ part. part ++ new_lines (with_context (left_after left s) ss)) (seen_new s.mark s (nat_lt 0 left) (is_near ss) refl)
    ∙ ap (λ rest. new_part s ++ rest) (context_new (left_after left s) ss)
