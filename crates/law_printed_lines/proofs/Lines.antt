-- A line of a finding leads back to it, whatever comes after the line.
use Rattle.std.proofs.Common.{◌≡◌, ◌∙◌, ℕ, ◌<◌, ◌≤◌, ◌^◌, true, false, List, [], ◌∷◌, ◌++◌, All, ap, append_assoc, arith, get_or, length, refl, sym}
use Rattle.std.specs.Fmt.{decimal}
use Rattle.std.specs.Prelude.{codes}
use Rattle.std.proofs.lemmas.Fmt.{decimal_injective}
use Rattle.std.proofs.lemmas.List.{append_cancel_left, append_cancel_right}
use Rattle.std.proofs.lemmas.List.Elements.{All-append, All-cons, All-nil, All-weaker}
use Rattle.check_print.specs.report_lines.Concise.{concise}
use Rattle.check_print.specs.report_lines.declared.concise.Order.{Order}
use Rattle.check_print.specs.report_lines.declared.concise.Order.TheVariants.{RuleFirst, RuleLast}
use Rattle.check_print.specs.source_file.declared.level.Level.{Level}
use Rattle.check_print.specs.source_file.declared.level.Level.TheVariants.{Warning, Error}
use Rattle.check_print.specs.source_file.Escaped.{escaped, escaped_name}
use Rattle.check_print.specs.source_file.File.{FileValue, location}
use Rattle.check_print.specs.source_file.Levels.{word_of}
use Rattle.law_printed_lines.proofs.Decimals.{decimal_first, decimal_free}
use Rattle.law_printed_lines.proofs.Escaping.{written_same, written_shown}
use Rattle.law_printed_lines.proofs.Marks.{split_mark, written_free}
use Rattle.law_printed_lines.proofs.Names.{is_name, name_free}
use Rattle.law_printed_lines.proofs.Places.{column_short, line_short}
use Rattle.law_printed_lines.proofs.Splits.{split_first, split_last}

-- ---- the level

heads_apart : (a b : ℕ) (r s : List ℕ) → (a ≡ b → ⊥) → a ∷ r ≡ b ∷ s → ⊥
heads_apart a b r s h e = h (ap (λ l. get_or l 0 0) e)

-- the word of a level is no front of the other's
pub same_word : (v w : Level) (r s : List ℕ) → word_of v ++ r ≡ word_of w ++ s → (v ≡ w) × (r ≡ s)
same_word Warning Warning r s e = (refl, append_cancel_left (codes "warning") r s e)
same_word Warning Error r s e = absurd (heads_apart 119 101 _ _ (λ f. omega arith) e)
same_word Error Warning r s e = absurd (heads_apart 101 119 _ _ (λ f. omega arith) e)
same_word Error Error r s e = (refl, append_cancel_left (codes "error") r s e)

-- ---- a message

pub message_free : (message : List ℕ) → All (λ b. b ≡ 10 → ⊥) (escaped message)
message_free message = All-weaker (λ b. 32 ≤ b) (λ b. b ≡ 10 → ⊥) (λ b low e. omega arith) (escaped message) (written_shown false message)

-- ---- the place

-- `file:line:column: `, and what comes after it
abbrev pub placed : List ℕ → ℕ → ℕ → List ℕ → List ℕ
placed name line column rest = escaped_name name ++ 58 ∷ (decimal line ++ 58 ∷ (decimal column ++ 58 ∷ 32 ∷ rest))

-- numbers that a machine word holds
abbrev pub AreShort : ℕ → ℕ → Type 0
AreShort line column = (line < 2 ^ 64) × (column < 2 ^ 64)

pub place_short : (text : List ℕ) (at : ℕ) → length text < 2 ^ 32 → AreShort (location text at).line (location text at).column
place_short text at short = (line_short text at short, column_short text at short)

same_place : (n m : List ℕ) (l k c d : ℕ) (r s : List ℕ) → AreShort l c → AreShort k d → placed n l c r ≡ placed m k d s → (n ≡ m) × (l ≡ k) × (c ≡ d) × (r ≡ s)
same_place n m l k c d r s short other e =
    let no_digit : (48 ≤ 58) × (58 ≤ 57) → ⊥ = λ h. omega (arith, h.1) in
    let first = split_mark (escaped_name n) (escaped_name m) _ _ (written_free n) (written_free m) (decimal_first l _ short.0) (decimal_first k _ other.0) e in
    let second = split_first 58 (decimal l) (decimal k) _ _ (decimal_free 58 l no_digit short.0) (decimal_free 58 k no_digit other.0) first.1 in
    let third = split_first 58 (decimal c) (decimal d) (32 ∷ r) (32 ∷ s) (decimal_free 58 c no_digit short.1) (decimal_free 58 d no_digit other.1) second.1 in (
      written_same true n m first.0,
      decimal_injective l k short.0 other.0 second.0,
      decimal_injective c d short.1 other.1 third.0,
      append_cancel_left (32 ∷ []) r s third.1,
    )

-- ---- the rule first

abbrev first_rest : Level → List ℕ → List ℕ → List ℕ → List ℕ
first_rest v name message rest = word_of v ++ 91 ∷ (name ++ 93 ∷ 58 ∷ 32 ∷ (escaped message ++ 10 ∷ rest))

same_first : (v w : Level) (n m p q r s : List ℕ) → is_name n ≡ true → is_name m ≡ true → first_rest v n p r ≡ first_rest w m q s → (v ≡ w) × (n ≡ m) × (p ≡ q) × (r ≡ s)
same_first v w n m p q r s h k e =
    let first = same_word v w _ _ e in
    let second = split_first 93 n m _ _ (name_free 93 n refl h) (name_free 93 m refl k) (append_cancel_left (91 ∷ []) _ _ first.1) in
    let third = split_first 10 (escaped p) (escaped q) r s (message_free p) (message_free q) (append_cancel_left (58 ∷ 32 ∷ []) _ _ second.1) in
    (first.0, second.0, written_same false p q third.0, third.1)

-- ---- the rule last

abbrev last_body : List ℕ → List ℕ → List ℕ
last_body name message = (escaped message ++ 32 ∷ []) ++ 91 ∷ (name ++ 93 ∷ [])

abbrev last_rest : Level → List ℕ → List ℕ → List ℕ → List ℕ
last_rest v name message rest = word_of v ++ 58 ∷ 32 ∷ (last_body name message ++ 10 ∷ rest)

body_free : (name message : List ℕ) → is_name name ≡ true → All (λ b. b ≡ 10 → ⊥) (last_body name message)
body_free name message h =
    let P : ℕ → Type 0 = λ b. b ≡ 10 → ⊥ in
    let front = All-append P (escaped message) (32 ∷ []) (message_free message) (All-cons P 32 [] (λ e. omega arith) (All-nil P)) in
    let rule = All-append P name (93 ∷ []) (name_free 10 name refl h) (All-cons P 93 [] (λ e. omega arith) (All-nil P)) in
    All-append P (escaped message ++ 32 ∷ []) (91 ∷ (name ++ 93 ∷ [])) front (All-cons P 91 (name ++ 93 ∷ []) (λ e. omega arith) rule)

rule_free : (name : List ℕ) → is_name name ≡ true → All (λ b. b ≡ 91 → ⊥) (name ++ 93 ∷ [])
rule_free name h =
    let P : ℕ → Type 0 = λ b. b ≡ 91 → ⊥ in
    All-append P name (93 ∷ []) (name_free 91 name refl h) (All-cons P 93 [] (λ e. omega arith) (All-nil P))

same_last : (v w : Level) (n m p q r s : List ℕ) → is_name n ≡ true → is_name m ≡ true → last_rest v n p r ≡ last_rest w m q s → (v ≡ w) × (n ≡ m) × (p ≡ q) × (r ≡ s)
same_last v w n m p q r s h k e =
    let first = same_word v w _ _ e in
    let second = split_first 10 (last_body n p) (last_body m q) r s (body_free n p h) (body_free m q k) (append_cancel_left (58 ∷ 32 ∷ []) _ _ first.1) in
    let third = split_last 91 (escaped p ++ 32 ∷ []) (escaped q ++ 32 ∷ []) (n ++ 93 ∷ []) (m ++ 93 ∷ []) (rule_free n h) (rule_free m k) second.0 in
    (first.0, append_cancel_right n m (93 ∷ []) third.1, written_same false p q (append_cancel_right (escaped p) (escaped q) (32 ∷ []) third.0), second.1)

-- ---- the line

abbrev pub rest_by : Order → Level → List ℕ → List ℕ → List ℕ → List ℕ
rest_by RuleFirst v name message rest = first_rest v name message rest
rest_by RuleLast v name message rest = last_rest v name message rest

same_rest : (order : Order) (v w : Level) (n m p q r s : List ℕ) → is_name n ≡ true → is_name m ≡ true → rest_by order v n p r ≡ rest_by order w m q s
    → (v ≡ w) × (n ≡ m) × (p ≡ q) × (r ≡ s)
same_rest RuleFirst = same_first
same_rest RuleLast = same_last

-- the line is its parts
pub line_parts : (order : Order) (file : FileValue) (at : ℕ) (v : Level) (name message rest : List ℕ)
    → concise order file at v name message ++ rest ≡ placed file.name (location file.text at).line (location file.text at).column (rest_by order v name message rest)
line_parts RuleFirst file at v name message rest = simp append_assoc
line_parts RuleLast file at v name message rest = simp append_assoc

-- lines that are the same are of one name, one place, one level, one rule and one message
pub same_line : (order : Order) (file other : FileValue) (at by : ℕ) (v w : Level) (n m p q r s : List ℕ) → length file.text < 2 ^ 32 → length other.text < 2 ^ 32
    → is_name n ≡ true → is_name m ≡ true → concise order file at v n p ++ r ≡ concise order other by w m q ++ s
    → ((file.name ≡ other.name) × ((location file.text at).line ≡ (location other.text by).line) × ((location file.text at).column ≡ (location other.text by).column))
    × (v ≡ w) × (n ≡ m) × (p ≡ q) × (r ≡ s)
same_line order file other at by v w n m p q r s short other_short h k e =
    let place = same_place _ _ _ _ _ _ _ _ (place_short file.text at short) (place_short other.text by other_short) (sym (line_parts order file at v n p r) ∙ e ∙ line_parts order other by w m q s) in
    let rest = same_rest order v w n m p q r s h k place.3 in
    ((place.0, place.1, place.2), rest.0, rest.1, rest.2, rest.3)
