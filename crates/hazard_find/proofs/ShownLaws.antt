-- Words of a text, from one byte to the next.
use Rattle.std.proofs.Common.{◌≡◌, ◌∙◌, sym, ap, ℕ, ◌+◌, ◌-◌, ◌<◌, ◌≤◌, arith, min, Bool, true, false, ◌||◌, List, [], ◌∷◌, length, map, get_or, take, drop, length-drop}
use Rattle.std.specs.Bool.{Decides}
use Rattle.std.specs.Char.{to_ascii_lowercase}
use Rattle.std.specs.Str.{bytes_eq, str_eq_ignore_ascii_case}
use Rattle.std.proofs.lemmas.Bool.Decides.{same_from_decides}
use Rattle.std.proofs.lemmas.List.{drop_more, drop_all, take_all, take_min}
use Rattle.std.proofs.lemmas.Slice.Eq.{bytes_eq-Decides}
use Rattle.hazard_find.specs.declared.shown.Place.{Place}
use Rattle.hazard_find.specs.Shown.{begins_with, place_after, shows_first, shows_from}

-- the bytes as far as there are some are compared with a word
pub begins_so : (r : Bool) (word bytes : List ℕ) (end : ℕ) → end ≡ min (length word) (length bytes)
    → Decides r (map to_ascii_lowercase (take end bytes) ≡ map to_ascii_lowercase word) → r ≡ begins_with word bytes
unfolding begins_with
begins_so r word bytes end e h =
    let cut : take end bytes ≡ take (length word) bytes = ap (λ n. take n bytes) e ∙ take_min (length word) bytes in
    same_from_decides r (bytes_eq (map to_ascii_lowercase (take end bytes)) (map to_ascii_lowercase word)) h (bytes_eq-Decides _ _)
    ∙ ap (λ (xs : List ℕ). str_eq_ignore_ascii_case xs word) cut

-- what is left of a text, cut by a range
pub rest_is : (text : List ℕ) (i : ℕ) → take (length text - i) (drop i text) ≡ drop i text
rest_is text i = take_all (length text - i) (drop i text) (omega (arith, length-drop i text))

-- ---- byte by byte

-- what some bytes show, by the first of them
opened : (word : List ℕ) (at : Place) (before b : ℕ) (bytes rest : List ℕ) → bytes ≡ b ∷ rest
    → shows_from word at before bytes ≡ (shows_first word at before bytes || shows_from word (place_after at before b) b rest)
unfolding shows_from
opened word at before b bytes rest e =
    ap (shows_from word at before) e ∙ ap (λ (x : List ℕ). shows_first word at before x || shows_from word (place_after at before b) b rest) (sym e)

-- no word comes first: the others are left
pub shows_next : (word text : List ℕ) (at next : Place) (before b i d : ℕ) (all : Bool) → i < length text → shows_from word at before (drop i text) ≡ all
    → false ≡ shows_first word at before (drop i text) → b ≡ get_or text i d → next ≡ place_after at before b
    → shows_from word next b (drop (i + 1) text) ≡ all
shows_next word text at next before b i d all l so none first is =
    let cut : drop i text ≡ b ∷ drop (i + 1) text = drop_more text i d l ∙ ap (λ x. x ∷ drop (i + 1) text) (sym first) in
    ap (λ (p : Place). shows_from word p b (drop (i + 1) text)) is
    ∙ (ap (λ a. a || shows_from word (place_after at before b) b (drop (i + 1) text)) none
    ∙ (sym (opened word at before b (drop i text) (drop (i + 1) text) cut) ∙ so))

-- a word comes first
pub shows_here : (word text : List ℕ) (at : Place) (before i d : ℕ) (all : Bool) → i < length text → shows_from word at before (drop i text) ≡ all
    → true ≡ shows_first word at before (drop i text) → true ≡ all
shows_here word text at before i d all l so some =
    let b = get_or text i d in
    ap (λ a. a || shows_from word (place_after at before b) b (drop (i + 1) text)) some
    ∙ (sym (opened word at before b (drop i text) (drop (i + 1) text) (drop_more text i d l)) ∙ so)

-- the text is at its end
pub shows_none : (word text : List ℕ) (at : Place) (before i : ℕ) (all : Bool) → length text ≤ i → shows_from word at before (drop i text) ≡ all → false ≡ all
unfolding shows_from
shows_none word text at before i all l so = sym (ap (shows_from word at before) (drop_all i text l)) ∙ so
