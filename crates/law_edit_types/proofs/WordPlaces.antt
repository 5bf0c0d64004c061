-- A word in the place of a name that is no key word: reading sees no difference.
use Rattle.std.proofs.Common.{◌≡◌, ◌<◌, ◌≤◌, ℕ, zero, suc, ◌+◌, true, false, cond, List, [], ◌∷◌, ◌++◌, map, length, get_or, length-append, append_assoc, sym, refl, ap, ◌∙◌, subst, arith, Option}
use Rattle.std.proofs.lemmas.Bool.{false≢true}
use Rattle.std.proofs.lemmas.Bool.Decides.{nat_tests}
use Rattle.std.proofs.lemmas.List.{map-append, get_or_at}
use Rattle.std.specs.Prelude.{◌==◌}
use Rattle.std.specs.Option.{option_map}
use Rattle.law_edit_inserts.specs.sql_keyword.declared.words.TheConstants.Keyword as keyword
use Rattle.law_edit_inserts.specs.sql_token.declared.terminal.Symbol.{Symbol}
use Rattle.law_edit_inserts.specs.sql_token.declared.terminal.Symbol.TheVariants as s
use Rattle.law_edit_inserts.specs.sql_token.declared.terminal.Terminal.{Terminal}
use Rattle.law_edit_inserts.specs.sql_token.Terminal.{is_keyword, is_keyword_symbol, is_name, is_name_symbol}
use Rattle.law_edit_inserts.specs.sql_token.Depth.{nothing}
use Rattle.law_edit_inserts.specs.sql_tree.declared.kinds.StmtKind.TheVariants as stmt
use Rattle.law_edit_inserts.specs.sql_tree.declared.nodes.Action.{Action}
use Rattle.law_edit_inserts.specs.sql_tree.Action.{action}
use Rattle.law_edit_inserts.specs.sql_tree.ActionPieces.{is_word_symbol}
use Rattle.law_edit_inserts.specs.law_renumber.Moved.{action_moved}
use Rattle.law_edit_inserts.specs.law_renumber.Names.{word_for, as_words, same}
use Rattle.law_edit_inserts.specs.law_renumber.Options.{StaysWord, OptionsKept, ActionKept}
use Rattle.law_edit_inserts.specs.law_renumber.Renumber.{renumber}
use Rattle.law_edit_inserts.specs.law_renumber.Trees.{ActionRenumbers}
use Rattle.law_edit_inserts.proofs.of_law_renumber.Actions.{action_renumbers, action_numbers}
use Rattle.law_edit_inserts.proofs.of_law_renumber.Names.{words_keep, unnumbered}
use Rattle.law_edit_inserts.proofs.of_law_renumber.Seen.{for_kept}
use Rattle.law_edit_inserts.proofs.Tokens.{AtLeast, Under, least_weaker, under_weaker}
use Rattle.law_edit_types.specs.Names.{is_key_word}
use Rattle.law_edit_types.specs.Runs.{last_or}

-- ---- the name as a word

-- the name of this number as a word, if it is a quoted one
abbrev pub as_word : ℕ → Terminal → Terminal
as_word n = as_words (λ x. x == n) same

-- a word that is no key word
abbrev pub plain_term : ℕ → Terminal
plain_term n = record { symbol = s.Word; number = n }

below : (n x : ℕ) → x < n → (x == n) ≡ false
below n x h = grind (arith, nat_tests)

above : (n x : ℕ) → n + 1 ≤ x → (x == n) ≡ false
above n x h = grind (arith, nat_tests)

equal : (n x : ℕ) → x ≡ n → (x == n) ≡ true
equal n x h = grind (arith, nat_tests)

other_stays : (n : ℕ) (t : Terminal) → (t.number == n) ≡ false → as_word n t ≡ t
other_stays n t h = λ i. record t { symbol = cond (h i) (word_for t.symbol) t.symbol }

below_stay : (n : ℕ) (ts : List Terminal) → Under n ts → map (as_word n) ts ≡ ts
unfolding Under
below_stay n [] h = refl
below_stay n (t ∷ ts) h = let one = other_stays n t (below n t.number h.0) in let rest = below_stay n ts h.1 in λ i. one i ∷ rest i

above_stay : (n : ℕ) (ts : List Terminal) → AtLeast (n + 1) ts → map (as_word n) ts ≡ ts
unfolding AtLeast
above_stay n [] h = refl
above_stay n (t ∷ ts) h = let one = other_stays n t (above n t.number h.0) in let rest = above_stay n ts h.1 in λ i. one i ∷ rest i

word_is : (x : Symbol) → is_name_symbol x ≡ true → is_key_word x ≡ false → word_for x ≡ s.Word
word_is (s.Keyword w) h g = absurd (false≢true (sym g))
word_is s.Word h g = refl
word_is s.Quoted h g = refl
word_is x h g = absurd (false≢true h)

name_becomes : (n : ℕ) (r : Terminal) → r.number ≡ n → is_name r ≡ true → is_key_word r.symbol ≡ false → as_word n r ≡ plain_term n
unfolding is_name
name_becomes n r number name plain =
    let here = equal n r.number number in
    let word = word_is r.symbol name plain in
    (λ i. record { symbol = cond (here i) (word_for r.symbol) r.symbol; number = number i }) ∙ (λ i. record { symbol = word i; number = n })

-- in a list in which its number is there once
pub list_becomes : (n : ℕ) (xs : List Terminal) (r : Terminal) (ys : List Terminal) → Under n xs → AtLeast (n + 1) ys → r.number ≡ n → is_name r ≡ true → is_key_word r.symbol ≡ false →
    map (as_word n) (xs ++ r ∷ ys) ≡ xs ++ plain_term n ∷ ys
list_becomes n xs r ys low high number name plain =
    let front = below_stay n xs low in
    let one = name_becomes n r number name plain in
    let rest = above_stay n ys high in
    map-append (as_word n) xs (r ∷ ys) ∙ (λ i. front i ++ one i ∷ rest i)

-- ---- after INITIALLY

other_kept : (n : ℕ) (t : Terminal) → (t.number == n) ≡ false → StaysWord (as_word n) t
other_kept n t h = ap (λ (x : Terminal). is_word_symbol x.symbol) (other_stays n t h)

options_above : (n : ℕ) (t : Terminal) (ts : List Terminal) → AtLeast (n + 1) ts → OptionsKept (as_word n) (t ∷ ts)
unfolding AtLeast
options_above n t [] h = tt
options_above n t (u ∷ us) h = (λ is. other_kept n u (above n u.number h.0), options_above n u us h.1)

options_kept : (n : ℕ) (x : Terminal) (xs : List Terminal) (r : Terminal) (ys : List Terminal) → Under n xs → AtLeast (n + 1) ys → is_keyword keyword.INITIALLY (last_or x xs) ≡ false → OptionsKept (as_word n) ((x ∷ xs) ++ r ∷ ys)
unfolding Under
options_kept n x [] r ys low high none = (λ is. absurd (false≢true (sym none ∙ is)), options_above n r ys high)
options_kept n x (y ∷ xs) r ys low high none = (λ is. other_kept n y (below n y.number low.0), options_kept n y xs r ys low.1 high none)

-- ---- numbers by place

-- the terminals with their places as numbers, the first of which is k
abbrev numbered : ℕ → List Terminal → List Terminal
numbered k [] = []
numbered k (t ∷ ts) = record t { number = k } ∷ numbered (k + 1) ts

numbered_append : (k : ℕ) (xs ys : List Terminal) → numbered k (xs ++ ys) ≡ numbered k xs ++ numbered (k + length xs) ys
numbered_append k [] ys = let none : k ≡ k + 0 = omega arith in ap (λ (j : ℕ). numbered j ys) none
numbered_append k (x ∷ xs) ys =
    let next : k + 1 + length xs ≡ k + suc (length xs) = omega arith in
    ap (λ (l : List Terminal). record x { number = k } ∷ l) (numbered_append (k + 1) xs ys ∙ ap (λ (j : ℕ). numbered (k + 1) xs ++ numbered j ys) next)

numbered_below : (k : ℕ) (ts : List Terminal) → Under (k + length ts) (numbered k ts)
unfolding Under
numbered_below k [] = tt
numbered_below k (t ∷ ts) = (omega arith, under_weaker (k + 1 + length ts) (k + suc (length ts)) (numbered (k + 1) ts) (omega arith) (numbered_below (k + 1) ts))

numbered_above : (k : ℕ) (ts : List Terminal) → AtLeast k (numbered k ts)
unfolding AtLeast
numbered_above k [] = tt
numbered_above k (t ∷ ts) = (omega arith, least_weaker (k + 1) k (numbered (k + 1) ts) (omega arith) (numbered_above (k + 1) ts))

last_numbered : (j k : ℕ) (x : Terminal) (xs : List Terminal) → (last_or (record x { number = j }) (numbered k xs)).symbol ≡ (last_or x xs).symbol
last_numbered j k x [] = refl
last_numbered j k x (y ∷ xs) = last_numbered k (k + 1) y xs

-- back to their own numbers
abbrev number_of : List Terminal → ℕ → ℕ
number_of ts i = (get_or ts i nothing).number

numbers_back : (pre ts all : List Terminal) → all ≡ pre ++ ts → map (renumber (number_of all)) (numbered (length pre) ts) ≡ ts
numbers_back pre [] all e = refl
numbers_back pre (t ∷ ts) all e =
    let here : number_of all (length pre) ≡ t.number = ap (λ (l : List Terminal). number_of l (length pre)) e ∙ ap (λ (x : Terminal). x.number) (get_or_at pre t ts nothing (length pre) refl) in
    let size = length-append pre (t ∷ []) in
    let next : length pre + 1 ≡ length (pre ++ t ∷ []) = omega (arith, size) in
    let rest = ap (λ (j : ℕ). map (renumber (number_of all)) (numbered j ts)) next ∙ numbers_back (pre ++ t ∷ []) ts all (e ∙ sym (append_assoc pre (t ∷ []) ts)) in
    λ i. record t { number = here i } ∷ rest i

same_numbers : (xs : List Terminal) (r : Terminal) (x : Symbol) (ys : List Terminal) (i : ℕ) → number_of (xs ++ record r { symbol = x } ∷ ys) i ≡ number_of (xs ++ r ∷ ys) i
same_numbers [] r x ys zero = refl
same_numbers [] r x ys (suc i) = refl
same_numbers (y ∷ xs) r x ys zero = refl
same_numbers (y ∷ xs) r x ys (suc i) = same_numbers xs r x ys i

-- ---- actions

abbrev read : List Terminal → Option Action
read ts = action stmt.AlterTable ts

-- An action is the same with the word, if no INITIALLY comes right before it in an action that begins with ALTER.
pub action_alike : (x : Terminal) (xs : List Terminal) (r : Terminal) (ys : List Terminal) → is_name r ≡ true → is_key_word r.symbol ≡ false →
    (is_keyword keyword.ALTER x ≡ true → is_keyword keyword.INITIALLY (last_or x xs) ≡ false) →
    action stmt.AlterTable ((x ∷ xs) ++ record r { symbol = s.Word } ∷ ys) ≡ action stmt.AlterTable ((x ∷ xs) ++ r ∷ ys)
unfolding is_keyword is_name Under
action_alike x xs r ys name plain quiet =
    let us : List Terminal = (x ∷ xs) ++ r ∷ ys in
    let vs : List Terminal = (x ∷ xs) ++ record r { symbol = s.Word } ∷ ys in
    let k : ℕ = 0 + length (x ∷ xs) in
    let q : Terminal = record r { number = k } in
    let old : numbered 0 us ≡ numbered 0 (x ∷ xs) ++ q ∷ numbered (k + 1) ys = numbered_append 0 (x ∷ xs) (r ∷ ys) in
    let new : numbered 0 vs ≡ numbered 0 (x ∷ xs) ++ plain_term k ∷ numbered (k + 1) ys = numbered_append 0 (x ∷ xs) (record r { symbol = s.Word } ∷ ys) in
    let low = numbered_below 0 (x ∷ xs) in
    let high = numbered_above (k + 1) ys in
    let list : map (as_word k) (numbered 0 us) ≡ numbered 0 vs = ap (λ (l : List Terminal). map (as_word k) l) old ∙ list_becomes k (numbered 0 (x ∷ xs)) q (numbered (k + 1) ys) low high refl name plain ∙ sym new in
    let kept : ActionKept (as_word k) (numbered 0 us) =
    (λ alter. subst (OptionsKept (as_word k)) (sym old)
    (options_kept k (record x { number = 0 }) (numbered (0 + 1) xs) q (numbered (k + 1) ys) low.1 high (ap (λ (y : Symbol). is_keyword_symbol keyword.INITIALLY y) (last_numbered 0 (0 + 1) x xs) ∙ quiet alter))) in
    let alike : read (numbered 0 vs) ≡ read (numbered 0 us) =
    ap read (sym list)
    ∙ for_kept ActionRenumbers action_renumbers (as_word k) same (words_keep (λ n. n == k) same) stmt.AlterTable (numbered 0 us) kept
    ∙ sym (action_numbers same stmt.AlterTable (numbered 0 us))
    ∙ ap read (unnumbered (numbered 0 us)) in
    let f : ℕ → ℕ = number_of us in
    let back : map (renumber f) (numbered 0 vs) ≡ vs = (λ i. map (renumber (λ n. sym (same_numbers (x ∷ xs) r s.Word ys n) i)) (numbered 0 vs)) ∙ numbers_back [] vs vs refl in
    ap read (sym back)
    ∙ action_numbers f stmt.AlterTable (numbered 0 vs)
    ∙ ap (λ (o : Option Action). option_map (action_moved f) o) alike
    ∙ sym (action_numbers f stmt.AlterTable (numbered 0 us))
    ∙ ap read (numbers_back [] us us refl)
