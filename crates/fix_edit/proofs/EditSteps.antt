-- One edit more.
use Rattle.std.proofs.Common.{◌≡◌, ◌∙◌, ℕ, suc, ◌+◌, ◌-◌, ◌<◌, ◌≤◌, List, ◌∷◌, ◌++◌, length, drop, get_or, ap, sym, refl, subst, arith, add-one, append_assoc, length-append}
use Rattle.std.proofs.Math.Seq.{drop-cons}
use Rattle.std.proofs.lemmas.List.{length-drop, length-take-le}
use Rattle.std.proofs.lemmas.Option.{get_or_from_slice_get, slice_get_read, slice_get_within}
use Rattle.std.specs.Prelude.{Option, Some, slice_get, slice_range}
use Rattle.std.specs.Option.{option_map_or}
use Rattle.law_type_fixes.specs.lint_base.declared.edit.Edit.{Edit}
use Rattle.law_type_fixes.specs.law_fixes.Edited.{edited_from, put_by}
use Rattle.fix_edit.specs.Faults.{AreGood, IsGoodAt, IsInText, end_before}

-- the edit that was read is the one with this number
read_at : (edits : List Edit) (n : ℕ) (edit : Edit) → n < length edits → edit ≡ get_or edits n edit → slice_get edits n ≡ Some edit
read_at edits n edit l e = slice_get_read edits (length edits) n edit refl l e

-- the predecessor of the next edit is this one
end_after : (edits : List Edit) (n : ℕ) (edit : Edit) → slice_get edits n ≡ Some edit → end_before edits (n + 1) ≡ edit.text_range.end
end_after edits n edit e = rw (add-one n) (ap (λ (o : Option Edit). option_map_or (λ x. x.text_range.end) o 0) e)

-- what is known of a good edit
pub record Here (text : List ℕ) (edits : List Edit) (n : ℕ) (edit : Edit) : Type 0 where
  pub in_text : IsInText text edit.text_range
  pub apart : end_before edits n ≤ edit.text_range.start

pub some_same : {X : Type 0} (x y : X) → Some x ≡ Some y → x ≡ y
some_same x y e = ap (λ o. option_map_or (λ z. z) o x) e

pub good_here : (text : List ℕ) (edits : List Edit) (n : ℕ) (edit : Edit) → slice_get edits n ≡ Some edit → IsGoodAt text edits n → Here text edits n edit
good_here text edits n edit e good =
    let same : good.edit ≡ edit = some_same good.edit edit (sym good.is ∙ e) in
    subst (λ (x : Edit). Here text edits n x) same (record { in_text = good.in_text; apart = good.apart })

-- the edited text from a place on, at one edit more
edited_step :
    (text : List ℕ) (place : ℕ) (edits : List Edit) (n : ℕ) (edit : Edit) → slice_get edits n ≡ Some edit →
    edited_from text place (drop n edits)
    ≡ slice_range text place edit.text_range.start ++ (put_by edit ++ edited_from text edit.text_range.end (drop (n + 1) edits))
edited_step text place edits n edit e =
    ap (λ es. edited_from text place es) here
  where
    at_suc : drop n edits ≡ edit ∷ drop (suc n) edits
    at_suc =
        drop-cons edits n edit (slice_get_within edits n edit e)
        ∙ ap (λ x. x ∷ drop (suc n) edits) (get_or_from_slice_get edits n edit edit e)

    here : drop n edits ≡ edit ∷ drop (n + 1) edits
    here = rw (add-one n) at_suc

-- how many bytes stay between two places of the text
kept_len : (text : List ℕ) (from to : ℕ) → from ≤ to → to ≤ length text → length (slice_range text from to) ≡ to - from
kept_len text from to l h = length-take-le (to - from) (drop from text) (omega (arith, length-drop from text, l, h))

-- the length of an edited text, at one edit more
length_step :
    (text : List ℕ) (place : ℕ) (edits : List Edit) (n : ℕ) (edit : Edit) → slice_get edits n ≡ Some edit →
    place ≤ edit.text_range.start → edit.text_range.start ≤ length text →
    length (edited_from text place (drop n edits))
    ≡ ((edit.text_range.start - place) + length (put_by edit)) + length (edited_from text edit.text_range.end (drop (n + 1) edits))
length_step text place edits n edit e l h =
    let kept = slice_range text place edit.text_range.start in
    let rest = edited_from text edit.text_range.end (drop (n + 1) edits) in
    let whole = ap length (edited_step text place edits n edit e) in
    omega (arith, whole, length-append kept (put_by edit ++ rest), length-append (put_by edit) rest, kept_len text place edit.text_range.start l h)

-- a text that was edited so far, at one edit more
made_step :
    (text made whole : List ℕ) (place : ℕ) (edits : List Edit) (n : ℕ) (edit : Edit) → slice_get edits n ≡ Some edit →
    made ++ edited_from text place (drop n edits) ≡ whole →
    (made ++ (slice_range text place edit.text_range.start ++ put_by edit)) ++ edited_from text edit.text_range.end (drop (n + 1) edits) ≡ whole
made_step text made whole place edits n edit e so_far =
    let kept = slice_range text place edit.text_range.start in
    let rest = edited_from text edit.text_range.end (drop (n + 1) edits) in
    regrouped made kept (put_by edit) rest ∙ ap (λ t. made ++ t) (sym (edited_step text place edits n edit e)) ∙ so_far
  where
    regrouped : (a b c d : List ℕ) → (a ++ (b ++ c)) ++ d ≡ a ++ (b ++ (c ++ d))
    regrouped a b c d = simp append_assoc

-- what is known of the edit that a loop reads, having reached a place, where no edit is bad
pub record AtEdit (text : List ℕ) (edits : List Edit) (n : ℕ) (edit : Edit) (place : ℕ) : Type 0 where
  pub in_text : IsInText text edit.text_range
  pub apart : place ≤ edit.text_range.start
  pub next : edit.text_range.end ≡ end_before edits (n + 1)
  pub longer :
      length (edited_from text place (drop n edits))
      ≡ ((edit.text_range.start - place) + length (put_by edit)) + length (edited_from text edit.text_range.end (drop (n + 1) edits))
  pub grown :
      (made whole : List ℕ) → made ++ edited_from text place (drop n edits) ≡ whole →
      (made ++ (slice_range text place edit.text_range.start ++ put_by edit)) ++ edited_from text edit.text_range.end (drop (n + 1) edits) ≡ whole

pub at_edit :
    (text : List ℕ) (edits : List Edit) (n : ℕ) (edit : Edit) (place : ℕ) →
    AreGood text edits → n < length edits → edit ≡ get_or edits n edit → place ≡ end_before edits n → AtEdit text edits n edit place
at_edit text edits n edit place good l read reached =
    let is = read_at edits n edit l read in
    let here = good_here text edits n edit is (good n l) in
    let apart : place ≤ edit.text_range.start = omega (arith, here.apart, reached) in
    record {
      in_text = here.in_text;
      apart = apart;
      next = sym (end_after edits n edit is);
      longer = length_step text place edits n edit is apart here.in_text.0.0;
      grown = λ made whole so_far. made_step text made whole place edits n edit is so_far;
    }
