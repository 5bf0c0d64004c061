-- The same as tokens with line feeds between them.
use Rattle.std.proofs.Common.{◌≡◌, ◌∙◌, ℕ, Bool, true, false, List, [], ◌∷◌, ◌++◌, ap, append_assoc, fold, inr, map, refl, subst, sym}
use Rattle.std.proofs.lemmas.List.{map-append}
use Rattle.std.proofs.lemmas.List.Sums.{fold-append}
use Rattle.json.specs.Json as json
use Rattle.json.specs.Lex.{tokens}
use Rattle.json.specs.Print.{ArePrintable, ends, print_from, separator, token_text}
use Rattle.json.specs.Spaced.{AreGaps, print_spaced}
use Rattle.json.specs.Token.{Token}
use Rattle.json.specs.Tree.{HasNumbers, items_tokens, json_tokens, members_tokens}
use Rattle.json.proofs.Printed.Tokens.{tokens-print_spaced}
use Rattle.json.proofs.Printed.Trees.{ArePrintable-json_tokens}
use Rattle.serde_json.proofs.Texts.{print-outline}
use Rattle.serde_json.specs.Data.{Data, Members, array, object}
use Rattle.serde_json.specs.View.{items_of}
use Rattle.serde_json.specs.Written.{items_outline, members_outline, members_text, outline}
use Rattle.law_printed_arrays.proofs.Chunks.{after, after_true, chunks}

-- a token right after the one before it
abbrev bare : Token → List ℕ × Token
bare t = ([], t)

abbrev spaced : List Members → List (List ℕ × Token)
spaced [] = []
spaced (ms ∷ mss) = (10 ∷ [], Token.begin_object) ∷ (map bare (members_tokens (members_outline ms)) ++ spaced mss)

-- the end of the array, on a line of its own
abbrev closed : List (List ℕ × Token)
closed = (10 ∷ [], Token.end_array) ∷ []

abbrev pub whole : List Members → List (List ℕ × Token)
whole mss = ([], Token.begin_array) ∷ (spaced mss ++ closed)

-- ---- what is printed

regroup : (a b c d : List ℕ) → a ++ (b ++ (c ++ d)) ≡ (a ++ (b ++ c)) ++ d
regroup a b c d = ap (λ l. a ++ l) (sym (append_assoc b c d)) ∙ sym (append_assoc a (b ++ c) d)

bare_print : (c : Bool) (ts : List Token) (qs : List (List ℕ × Token)) → print_spaced c (map bare ts ++ qs) ≡ print_from c ts ++ print_spaced (fold (λ b u. ends u) c ts) qs
unfolding print_spaced print_from
bare_print c [] qs = refl
bare_print c (t ∷ ts) qs =
    ap (λ l. separator c t ++ (token_text t ++ l)) (bare_print (ends t) ts qs)
    ∙ regroup (separator c t) (token_text t) (print_from (ends t) ts) (print_spaced (fold (λ b u. ends u) (ends t) ts) qs)

ends_members : (c : Bool) (ms : json.Members) → fold (λ b u. ends u) c (members_tokens ms) ≡ true
ends_members c json.no_members = refl
ends_members c (json.member k j ms) =
    fold-append (λ b u. ends u) false (json_tokens j) (members_tokens ms) ∙ ends_members (fold (λ b u. ends u) false (json_tokens j)) ms

members_print : (ms : Members) → print_from false (members_tokens (members_outline ms)) ≡ members_text false ms
unfolding print_from
members_print ms =
    let e : 123 ∷ print_from false (members_tokens (members_outline ms)) ≡ 123 ∷ members_text false ms = print-outline (object ms) in
    cc

-- what is printed of an object and of what comes after it
object_print : (ms : Members) (more qs : List (List ℕ × Token)) (next : List ℕ) → print_spaced true (more ++ qs) ≡ next
    → print_spaced false ((map bare (members_tokens (members_outline ms)) ++ more) ++ qs) ≡ members_text false ms ++ next
object_print ms more qs next e =
    let ts = members_tokens (members_outline ms) in
    ap (print_spaced false) (append_assoc (map bare ts) more qs)
    ∙ bare_print false ts (more ++ qs)
    ∙ ap (λ l. l ++ print_spaced (fold (λ b u. ends u) false ts) (more ++ qs)) (members_print ms)
    ∙ ap (λ b. members_text false ms ++ print_spaced b (more ++ qs)) (ends_members false (members_outline ms))
    ∙ ap (λ l. members_text false ms ++ l) e

spaced_print : (b : Bool) (mss : List Members) (qs : List (List ℕ × Token)) → print_spaced b (spaced mss ++ qs) ≡ chunks b mss ++ print_spaced (after b mss) qs
unfolding print_spaced
spaced_print b [] qs = refl
spaced_print true (ms ∷ mss) qs =
    let rest = spaced_print true mss qs ∙ ap (λ c. chunks true mss ++ print_spaced c qs) (after_true mss) in
    ap (λ l. 44 ∷ 10 ∷ 123 ∷ l) (object_print ms (spaced mss) qs _ rest ∙ sym (append_assoc (members_text false ms) (chunks true mss) (print_spaced true qs)))
spaced_print false (ms ∷ mss) qs =
    let rest = spaced_print true mss qs ∙ ap (λ c. chunks true mss ++ print_spaced c qs) (after_true mss) in
    ap (λ l. 10 ∷ 123 ∷ l) (object_print ms (spaced mss) qs _ rest ∙ sym (append_assoc (members_text false ms) (chunks true mss) (print_spaced true qs)))

closed_print : (b : Bool) → print_spaced b closed ≡ 10 ∷ 93 ∷ []
unfolding print_spaced
closed_print true = refl
closed_print false = refl

-- the array, but for its last line feed
pub whole_print : (mss : List Members) → print_spaced false (whole mss) ≡ 91 ∷ (chunks false mss ++ 10 ∷ 93 ∷ [])
unfolding print_spaced
whole_print mss = ap (λ l. 91 ∷ l) (spaced_print false mss closed ∙ ap (λ l. chunks false mss ++ l) (closed_print (after false mss)))

-- ---- its tokens

bare_tokens : (ts : List Token) → map (λ p. p.1) (map bare ts) ≡ ts
bare_tokens [] = refl
bare_tokens (t ∷ ts) = ap (λ l. t ∷ l) (bare_tokens ts)

abbrev pub array_of : List Members → Data
array_of mss = array (items_of (map object mss))

spaced_tokens : (mss : List Members) → map (λ p. p.1) (spaced mss ++ closed) ≡ items_tokens (items_outline (items_of (map object mss)))
spaced_tokens [] = refl
spaced_tokens (ms ∷ mss) =
    let ts = members_tokens (members_outline ms) in
    ap (λ l. Token.begin_object ∷ l)
    (ap (map (λ p. p.1)) (append_assoc (map bare ts) (spaced mss) closed)
    ∙ map-append (λ p. p.1) (map bare ts) (spaced mss ++ closed)
    ∙ ap (λ l. l ++ map (λ p. p.1) (spaced mss ++ closed)) (bare_tokens ts)
    ∙ ap (λ l. ts ++ l) (spaced_tokens mss))

whole_tokens : (mss : List Members) → map (λ p. p.1) (whole mss) ≡ json_tokens (outline (array_of mss))
whole_tokens mss = ap (λ l. Token.begin_array ∷ l) (spaced_tokens mss)

bare_gaps : (ts : List Token) (more : List (List ℕ × Token)) → AreGaps more → AreGaps (map bare ts ++ more)
bare_gaps [] more h = h
bare_gaps (t ∷ ts) more h = (tt, bare_gaps ts more h)

spaced_gaps : (mss : List Members) → AreGaps (spaced mss ++ closed)
spaced_gaps [] = ((inr refl, tt), tt)
spaced_gaps (ms ∷ mss) =
    let ts = members_tokens (members_outline ms) in
    ((inr refl, tt), subst AreGaps (sym (append_assoc (map bare ts) (spaced mss) closed)) (bare_gaps ts (spaced mss ++ closed) (spaced_gaps mss)))

-- the tokens of the printed array are those of the array
pub array_tokens : (mss : List Members) → HasNumbers (outline (array_of mss)) → tokens (print_spaced false (whole mss)) ≡ json_tokens (outline (array_of mss))
array_tokens mss numbers =
    tokens-print_spaced (whole mss) (tt, spaced_gaps mss) (subst ArePrintable (sym (whole_tokens mss)) (ArePrintable-json_tokens (outline (array_of mss)) numbers))
    ∙ whole_tokens mss
