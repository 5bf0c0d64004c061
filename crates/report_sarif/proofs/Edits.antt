-- Edits as values, one after another.
use Rattle.std.proofs.Common.{◌≡◌, ◌∙◌, ◌+◌, ◌<◌, ◌≤◌, ℕ, true, false, ◌&&◌, List, [], ◌∷◌, ◌++◌, length, map, get_or, drop, Option, Some, MatchOption, sym, ap, append-nil, append_assoc}
use Rattle.std.proofs.lemmas.List.{drop_all, drop_more, map-append}
use Rattle.serde_json.specs.Data.{array}
use Rattle.serde_json.specs.View.{items_of, view}
use Rattle.serde_json.specs.declared.value.Value.{Value}
use Rattle.lint_base.specs.declared.edit.Edit.{Edit}
use Rattle.report_sarif.specs.Places.{is_range_in}
use Rattle.report_sarif.specs.Results.{are_in_text, replacement, replacements}

-- an edit in the text, as a value
abbrev Made : List ℕ → Edit → Value → Type 0
Made text e v = (is_range_in text e.text_range ≡ true) × (view v ≡ replacement text e)

pub made : (text : List ℕ) (e : Edit) (o : Option Value) (v : Value) → MatchOption o (is_range_in text e.text_range ≡ false) (λ w. (is_range_in text e.text_range ≡ true) × (view w ≡ replacement text e)) → o ≡ Some v → Made text e v
made text e o v m is = rw is at m

first_of : (es : List Edit) (i : ℕ) (e : Edit) → i < length es → e ≡ get_or es i e → drop i es ≡ e ∷ drop (i + 1) es
first_of es i e h same = drop_more es i e h ∙ ap (λ y. y ∷ drop (i + 1) es) (sym same)

pub checked_next : (text : List ℕ) (es : List Edit) (i : ℕ) (e : Edit) (v : Value) → i < length es → e ≡ get_or es i e → Made text e v
    → are_in_text text (drop i es) ≡ are_in_text text es → are_in_text text (drop (i + 1) es) ≡ are_in_text text es
checked_next text es i e v h same made p =
    let whole : are_in_text text (e ∷ drop (i + 1) es) ≡ are_in_text text es = rw (first_of es i e h same) at p in
    sym (ap (λ b. b && are_in_text text (drop (i + 1) es)) made.0) ∙ whole

pub grown_next : (text : List ℕ) (es : List Edit) (i : ℕ) (e : Edit) (v : Value) (done pushed : List Value) → i < length es → e ≡ get_or es i e → Made text e v
    → pushed ≡ done ++ v ∷ [] → map view done ++ map (replacement text) (drop i es) ≡ map (replacement text) es
    → map view pushed ++ map (replacement text) (drop (i + 1) es) ≡ map (replacement text) es
grown_next text es i e v done pushed h same made more p =
    let before : map view done ++ (replacement text e ∷ map (replacement text) (drop (i + 1) es)) ≡ map (replacement text) es = rw (first_of es i e h same) at p in
    ap (λ vs. map view vs ++ map (replacement text) (drop (i + 1) es)) more
    ∙ ap (λ ds. ds ++ map (replacement text) (drop (i + 1) es)) (map-append view done (v ∷ []))
    ∙ append_assoc (map view done) (view v ∷ []) (map (replacement text) (drop (i + 1) es))
    ∙ ap (λ d. map view done ++ d ∷ map (replacement text) (drop (i + 1) es)) made.1
    ∙ before

pub all_in_text : (text : List ℕ) (es : List Edit) (i : ℕ) → length es ≤ i → are_in_text text (drop i es) ≡ are_in_text text es → are_in_text text es ≡ true
all_in_text text es i l p =
    let after : true ≡ are_in_text text es = rw (drop_all i es l) at p in
    sym after

pub all_made : (text : List ℕ) (es : List Edit) (i : ℕ) (done : List Value) → length es ≤ i → map view done ++ map (replacement text) (drop i es) ≡ map (replacement text) es
    → array (items_of (map view done)) ≡ replacements text es
all_made text es i done l p =
    let after : map view done ++ [] ≡ map (replacement text) es = rw (drop_all i es l) at p in
    ap (λ ds. array (items_of ds)) (sym (append-nil (map view done)) ∙ after)
