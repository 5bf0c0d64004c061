-- A comment's text has its marks.
use Rattle.std.proofs.Common.{◌≡◌, ℕ, zero, suc, ◌+◌, ◌-◌, ◌^◌, ◌<◌, ◌≤◌, inl, inr, Bool, true, false, List, [], ◌∷◌, length, get_or, take, drop, length-drop, sym, refl, ap, ◌∙◌, subst, arith}
use Rattle.std.proofs.lemmas.Bool.{cases_lt}
use Rattle.std.proofs.lemmas.Bool.Decides.{nat_tests}
use Rattle.std.proofs.lemmas.List.{get_or-take, get_or_default, length-take-le}
use Rattle.std.proofs.lemmas.Str.{IsCharBoundary-after_ascii, IsCharBoundary-before_ascii}
use Rattle.std.specs.Str.{IsUtf8}
use Rattle.std.specs.Prelude.{◌==◌, not, if◌then◌else◌}
use Rattle.sql_tree.specs.sql_token.declared.token.Tok.{Tok}
use Rattle.sql_tree.specs.sql_token.declared.token.TokKind.{TokKind}
use Rattle.sql_tree.specs.sql_token.declared.token.TokKind.TheVariants.{Blank, LineComment, BlockComment, Word, Quoted, Str, UName, Dollar, Param, Number, Op, Punct, Other}
use Rattle.sql_tree.specs.sql_token.Comment.{opens, closes, Comment, comment, Inside, none, byte, nested}
use Rattle.sql_tree.specs.sql_token.Token.{Text, begins_line, IsRun, At, Leads, text_of}
use Rattle.sql_tree.specs.Statement.{Tree, IsTree, no_token}
use Rattle.sql_tree.specs.Range.{token_at}
use Rattle.lint_ignore.specs.Comment.{CanCutDelimiters}

-- a comment's text has its marks
abbrev HasDelimiters : TokKind → List ℕ → Type 0
HasDelimiters LineComment z = (2 ≤ length z) × (get_or z 1 0 ≡ 45)
HasDelimiters BlockComment z = (4 ≤ length z) × (get_or z 1 0 ≡ 42) × (get_or z (length z - 2) 0 ≡ 42)
HasDelimiters _ z = Unit {0}

leads_at : (t : Text) (a b : ℕ) (ks : List Tok) (i : ℕ) (d : Tok) → Leads t a ks b → i < length ks → At t (get_or ks i d).start (get_or ks i d).kind (get_or ks i d).end
leads_at t a b [] i d lead h = absurd (omega arith)
leads_at t a b (k ∷ ks) zero d lead h = subst (λ (x : ℕ). At t x k.kind k.end) (sym lead.0) lead.1
leads_at t a b (k ∷ ks) (suc i) d lead h = leads_at t k.end b ks i d lead.2 (omega arith)

abbrev kind_by : (a b c d e f g h i j l m : Bool) → TokKind
kind_by a b c d e f g h i j l m =
    if a then Blank
    else (if b then LineComment
    else (if c then BlockComment
    else (if d then Str
    else (if e then UName
    else (if f then Quoted
    else (if g then Dollar
    else (if h then Param
    else (if i then Number
    else (if j then Word
    else (if l then Op
    else (if m then Punct
    else Other)))))))))))

by_line : (a b c d e f g h i j l m : Bool) → LineComment ≡ kind_by a b c d e f g h i j l m → b ≡ true
by_line true b c d e f g h i j l m k = cc
by_line false true c d e f g h i j l m k = refl
by_line false false true d e f g h i j l m k = cc
by_line false false false true e f g h i j l m k = cc
by_line false false false false true f g h i j l m k = cc
by_line false false false false false true g h i j l m k = cc
by_line false false false false false false true h i j l m k = cc
by_line false false false false false false false true i j l m k = cc
by_line false false false false false false false false true j l m k = cc
by_line false false false false false false false false false true l m k = cc
by_line false false false false false false false false false false true m k = cc
by_line false false false false false false false false false false false true k = cc
by_line false false false false false false false false false false false false k = cc

line_bytes : (z : Text) → begins_line z ≡ true → get_or z 1 0 ≡ 45
line_bytes z h = grind (arith, nat_tests)

within_text : (z : Text) → get_or z 1 0 ≡ 45 → 2 ≤ length z
within_text [] h = absurd (omega (arith, h))
within_text (x ∷ []) h = absurd (omega (arith, h))
within_text (x ∷ y ∷ z) h = omega arith

inside_forward : (z : Text) {i j : ℕ} → Inside z i j → i ≤ j
inside_forward z {i} {j} none = omega arith
inside_forward z {i} {j} (byte within o c rest) = let le = inside_forward z rest in omega arith
inside_forward z {i} {j} (nested {m = m} (comment {m = n} o first c e) rest) =
    let le = inside_forward z rest in
    let inner = inside_forward z first in
    omega arith

line_two : (z : Text) (n : ℕ) → get_or z 1 0 ≡ 45 → IsRun LineComment z 1 n → 2 ≤ n
line_two z n one run = elim (cases_lt 1 n) [ inl l ↦ omega arith | inr le ↦ absurd (short (omega (arith, run.begun))) ]
  where
    newline : (b : ℕ) → not (b == 10) ≡ false → b ≡ 10
    newline b h = grind (arith, nat_tests)

    short : n ≡ 1 → ⊥
    short e =
        let long : 2 ≤ length z = within_text z one in
        let stop : get_or z n 0 ≡ 10 = newline (get_or z n 0) (run.stops (omega arith)) in
        let same : get_or z n 0 ≡ get_or z 1 0 = ap (λ (i : ℕ). get_or z i 0) e in
        omega arith

line_delimiters : (z : Text) (n : ℕ) → n ≤ length z → get_or z 1 0 ≡ 45 → IsRun LineComment z 1 n → HasDelimiters LineComment (take n z)
line_delimiters z n within one run =
    let two = line_two z n one run in
    let size : length (take n z) ≡ n = length-take-le n z within in
    (omega arith, get_or-take n z 1 0 (omega arith) ∙ one)

opens_byte : (z : Text) → opens z 0 ≡ true → get_or z 1 0 ≡ 42
opens_byte z h = grind (arith, nat_tests)

closes_byte : (z : Text) (m : ℕ) → closes z m ≡ true → get_or z m 0 ≡ 42
closes_byte z m h = grind (arith, nat_tests)

block_delimiters : (z : Text) (n : ℕ) → n ≤ length z → Comment z 0 n → HasDelimiters BlockComment (take n z)
block_delimiters z n within (comment {m = m} o first c e) =
    let two = inside_forward z first in
    let size : length (take n z) ≡ n = length-take-le n z within in
    let place : length (take n z) - 2 ≡ m = omega arith in
    (omega arith, get_or-take n z 1 0 (omega arith) ∙ opens_byte z o, ap (λ (i : ℕ). get_or (take n z) i 0) place ∙ (get_or-take n z m 0 (omega arith) ∙ closes_byte z m c))

at_delimiters : (t : Text) (i j : ℕ) (k : TokKind) → At t i k j → HasDelimiters k (take (j - i) (drop i t))
at_delimiters t i j LineComment here =
    let within = here.within in
    line_delimiters (drop i t) (j - i) (omega (arith, length-drop i t)) (line_bytes (drop i t) (by_line _ _ _ _ _ _ _ _ _ _ _ _ here.kind)) here.takes
at_delimiters t i j BlockComment here = let within = here.within in block_delimiters (drop i t) (j - i) (omega (arith, length-drop i t)) here.takes
at_delimiters t i j _ here = tt

cut_delimiters : (k : TokKind) (z : List ℕ) → IsUtf8 z → HasDelimiters k z → CanCutDelimiters k z
cut_delimiters LineComment z utf8 h = IsCharBoundary-after_ascii z 1 utf8 (omega (arith, h.0)) (omega (arith, h.1))
cut_delimiters BlockComment z utf8 h =
    (h.0, IsCharBoundary-after_ascii z 1 utf8 (omega (arith, h.0)) (omega (arith, h.1)), IsCharBoundary-before_ascii z (length z - 2) (omega (arith, h.0)) (omega (arith, h.2)))
cut_delimiters _ z utf8 h = tt

-- a comment of a tree may be cut at its marks
pub delimiters_of : (tree : Tree) (i : ℕ) (z : List ℕ) → IsTree tree → i < length tree.toks → IsUtf8 z → z ≡ text_of tree.text (token_at tree.toks i) → CanCutDelimiters (token_at tree.toks i).kind z
delimiters_of tree i z is h utf8 same =
    let P : List ℕ → Type 0 = λ x. HasDelimiters (token_at tree.toks i).kind x in
    cut_delimiters (token_at tree.toks i).kind z utf8 (subst P (sym same) (at_delimiters tree.text _ _ _ (leads_at tree.text 0 (length tree.text) tree.toks i no_token is.lexed h)))

-- a token of a tree ends within 2 ^ 32 bytes
token_fits : (tree : Tree) (i : ℕ) → IsTree tree → i < length tree.toks → (token_at tree.toks i).start + length (text_of tree.text (token_at tree.toks i)) < 2 ^ 32
token_fits tree i is h =
    let tok : Tok = token_at tree.toks i in
    let here = leads_at tree.text 0 (length tree.text) tree.toks i no_token is.lexed h in
    let before : tok.start < tok.end = here.before in
    let within : tok.end ≤ length tree.text = here.within in
    let short : length tree.text < 2 ^ 32 = is.short in
    let size : length (text_of tree.text tok) ≡ tok.end - tok.start = length-take-le (tok.end - tok.start) (drop tok.start tree.text) (omega (arith, length-drop tok.start tree.text)) in
    omega arith

-- the same of a token that was read
pub read_fits : (tree : Tree) (toks : List Tok) (i : ℕ) (d : Tok) (z : List ℕ) → IsTree tree → toks ≡ tree.toks → i < length tree.toks → z ≡ text_of tree.text (token_at tree.toks i) → (get_or toks i d).start + length z < 2 ^ 32
read_fits tree toks i d z is same h text =
    let at : get_or toks i d ≡ token_at tree.toks i = ap (λ (ks : List Tok). get_or ks i d) same ∙ get_or_default tree.toks i d no_token h in
    let first : (get_or toks i d).start ≡ (token_at tree.toks i).start = ap (λ (k : Tok). k.start) at in
    let size : length z ≡ length (text_of tree.text (token_at tree.toks i)) = ap (λ (x : List ℕ). length x) text in
    omega (arith, token_fits tree i is h)
