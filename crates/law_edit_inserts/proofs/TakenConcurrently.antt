-- A statement with the word CONCURRENTLY: sound as before, with the same ends, and of the form that its new terminals give.
use Rattle.std.proofs.Common.{◌≡◌, ℕ, suc, ◌+◌, ◌-◌, Bool, true, false, cond, get_or, List, [], ◌∷◌, ◌++◌, length, take, length-append, append_assoc, sym, refl, ap, ◌∙◌, arith, Option, Some, None}
use Rattle.std.proofs.lemmas.List.{get_or-append-add}
use Rattle.std.specs.Option.{option_and_then}
use Rattle.law_edit_cuts.specs.sql_keyword.declared.words.TheConstants.Keyword as keyword
use Rattle.law_edit_cuts.specs.sql_keyword.Same.{same_keyword}
use Rattle.law_edit_cuts.specs.sql_token.declared.terminal.Terminal.{Terminal}
use Rattle.law_edit_cuts.specs.sql_token.Terminal.{is_semicolon, is_keyword, is_opener, is_closer, is_unicode_name}
use Rattle.law_edit_cuts.specs.sql_token.Depth.{span_of, nothing}
use Rattle.law_edit_cuts.specs.sql_token.Sound.{is_sound, begins_atomic}
use Rattle.law_edit_cuts.specs.sql_tree.declared.kinds.StmtKind.{StmtKind}
use Rattle.law_edit_cuts.specs.sql_tree.declared.nodes.Body.{Body}
use Rattle.law_edit_cuts.specs.sql_tree.declared.nodes.Stmt.{Stmt}
use Rattle.law_edit_cuts.specs.sql_tree.Statement.{last_of, without_semicolon, form_of, stmt_in, statement}
use Rattle.law_edit_cuts.proofs.Sound.{soundness_stays}
use Rattle.law_edit_inserts.specs.Concurrently.{key}

-- ---- the last terminal

pub last_after : (xs : List Terminal) (y : Terminal) (ys : List Terminal) → last_of (xs ++ y ∷ ys) ≡ last_of (y ∷ ys)
last_after xs y ys =
    let size = length-append xs (y ∷ ys) in
    let place : length (xs ++ y ∷ ys) - 1 ≡ length xs + (length (y ∷ ys) - 1) = omega arith in
    ap (λ (i : ℕ). get_or (xs ++ y ∷ ys) i nothing) place ∙ get_or-append-add xs (y ∷ ys) (length (y ∷ ys) - 1) nothing

take_after : (xs ys : List Terminal) (n : ℕ) → take (length xs + n) (xs ++ ys) ≡ xs ++ take n ys
take_after [] ys n = let zero : 0 + n ≡ n = omega arith in ap (λ (i : ℕ). take i ys) zero
take_after (x ∷ xs) ys n =
    let place : suc (length xs) + n ≡ suc (length xs + n) = omega arith in
    ap (λ (i : ℕ). take i (x ∷ (xs ++ ys))) place ∙ ap (λ (l : List Terminal). x ∷ l) (take_after xs ys n)

pub bare_after : (xs : List Terminal) (y : Terminal) (ys : List Terminal) → without_semicolon (xs ++ y ∷ ys) ≡ xs ++ without_semicolon (y ∷ ys)
bare_after xs y ys =
    let last = ap is_semicolon (last_after xs y ys) in
    let size = length-append xs (y ∷ ys) in
    let place : length (xs ++ y ∷ ys) - 1 ≡ length xs + (length (y ∷ ys) - 1) = omega arith in
    (λ i. cond (last i) (take (place i) (xs ++ y ∷ ys)) (xs ++ y ∷ ys))
    ∙ (λ i. cond (is_semicolon (last_of (y ∷ ys))) (take_after xs (y ∷ ys) (length (y ∷ ys) - 1) i) (xs ++ y ∷ ys))
    ∙ by (is_semicolon (last_of (y ∷ ys)))
  where
    by : (b : Bool) → cond b (xs ++ take (length (y ∷ ys) - 1) (y ∷ ys)) (xs ++ y ∷ ys) ≡ xs ++ cond b (take (length (y ∷ ys) - 1) (y ∷ ys)) (y ∷ ys)
    by true = refl
    by false = refl

one_bare : (t : Terminal) → is_semicolon t ≡ false → without_semicolon (t ∷ []) ≡ t ∷ []
one_bare t h = λ i. cond (h i) (take (1 - 1) (t ∷ [])) (t ∷ [])

none_bare : without_semicolon [] ≡ []
unfolding is_semicolon
none_bare = refl

-- a terminal that is no `;`, and what follows it
pub bare_one : (xs : List Terminal) (y : Terminal) (ys : List Terminal) → is_semicolon y ≡ false → without_semicolon (xs ++ y ∷ ys) ≡ xs ++ y ∷ without_semicolon ys
bare_one xs y [] h = bare_after xs y [] ∙ ap (λ (l : List Terminal). xs ++ l) (one_bare y h) ∙ ap (λ (l : List Terminal). xs ++ y ∷ l) (sym none_bare)
bare_one xs y (z ∷ ys) h =
    ap without_semicolon (sym (append_assoc xs (y ∷ []) (z ∷ ys))) ∙ bare_after (xs ++ y ∷ []) z ys ∙ append_assoc xs (y ∷ []) (without_semicolon (z ∷ ys))

-- ---- statements and their parts

-- what a statement is read of
pub record Read (us : List Terminal) (s : Stmt) : Type 0 where
  pub sound : is_sound us ≡ true
  pub form : form_of (without_semicolon us) ≡ Some (s.kind, s.body)
  pub first : s.first ≡ (get_or us 0 nothing).number
  pub last : s.last ≡ (last_of us).number

pub parts_of : (us : List Terminal) (s : Stmt) → statement us ≡ Some s → Read us s
unfolding statement
parts_of us s e = by (is_sound us) (form_of (without_semicolon us)) refl refl e
  where
    inside : {x y : Stmt} → Some x ≡ Some y → x ≡ y
    inside e = cc

    by : (b : Bool) (r : Option (StmtKind × Body)) → is_sound us ≡ b → form_of (without_semicolon us) ≡ r → cond b (option_and_then (λ f. Some (stmt_in (span_of us) f)) r) None ≡ Some s → Read us s
    by false r p q e = cc
    by true None p q e = cc
    by true (Some f) p q e =
        let same = inside e in
        record {
          sound = p;
          form = q ∙ (λ i. Some ((same i).kind, (same i).body));
          first = ap (λ (x : Stmt). x.first) (sym same);
          last = ap (λ (x : Stmt). x.last) (sym same);
        }

pub of_parts : (us : List Terminal) (s : Stmt) → Read us s → statement us ≡ Some s
unfolding statement
of_parts us s r =
    let sound = r.sound in let form = r.form in let first = sym r.first in let last = sym r.last in
    (λ i. cond (sound i) (option_and_then (λ f. Some (stmt_in (span_of us) f)) (form i)) None)
    ∙ (λ i. Some (record { kind = s.kind; first = first i; last = last i; body = s.body }))

-- ---- with the word

word_sound : (m : ℕ) → is_sound (key keyword.CONCURRENTLY m ∷ []) ≡ true
unfolding is_sound begins_atomic is_unicode_name is_opener is_closer is_keyword same_keyword
word_sound m = refl

word_ends_none : (m : ℕ) → is_semicolon (key keyword.CONCURRENTLY m) ≡ false
unfolding is_semicolon
word_ends_none m = refl

pub sound_with : (front : List Terminal) (m : ℕ) (tail : List Terminal) → is_sound (front ++ tail) ≡ true → is_sound (front ++ key keyword.CONCURRENTLY m ∷ tail) ≡ true
unfolding is_opener is_closer is_keyword same_keyword
sound_with front m tail h = soundness_stays front [] tail (key keyword.CONCURRENTLY m) [] refl (word_sound m) refl (omega arith) h

-- the last token of a statement that ends with this tail after the word m
abbrev pub last_with : List Terminal → ℕ → ℕ → ℕ
last_with [] m l = m
last_with (t ∷ ts) m l = l

-- A statement with the word after the terminal r is that of its new form.
pub word_reads : (f : Terminal) (front : List Terminal) (r : Terminal) (m : ℕ) (tail : List Terminal) (s : Stmt) (b : Body) → is_semicolon r ≡ false →
    statement ((f ∷ front) ++ r ∷ tail) ≡ Some s → form_of ((f ∷ front) ++ r ∷ key keyword.CONCURRENTLY m ∷ without_semicolon tail) ≡ Some (s.kind, b) →
    statement ((f ∷ front) ++ r ∷ key keyword.CONCURRENTLY m ∷ tail) ≡ Some (record s { last = last_with tail m s.last; body = b })
word_reads f front r m tail s b none old form =
    let c : Terminal = key keyword.CONCURRENTLY m in
    let parts = parts_of ((f ∷ front) ++ r ∷ tail) s old in
    let whole : (f ∷ front) ++ r ∷ c ∷ tail ≡ ((f ∷ front) ++ r ∷ []) ++ c ∷ tail = sym (append_assoc (f ∷ front) (r ∷ []) (c ∷ tail)) in
    let before : (f ∷ front) ++ r ∷ tail ≡ ((f ∷ front) ++ r ∷ []) ++ tail = sym (append_assoc (f ∷ front) (r ∷ []) tail) in
    let bare : without_semicolon ((f ∷ front) ++ r ∷ c ∷ tail) ≡ (f ∷ front) ++ r ∷ c ∷ without_semicolon tail =
    ap without_semicolon whole ∙ bare_one ((f ∷ front) ++ r ∷ []) c tail (word_ends_none m) ∙ append_assoc (f ∷ front) (r ∷ []) (c ∷ without_semicolon tail) in
    of_parts ((f ∷ front) ++ r ∷ c ∷ tail) (record s { last = last_with tail m s.last; body = b })
    (record {
      sound = ap is_sound whole ∙ sound_with ((f ∷ front) ++ r ∷ []) m tail (sym (ap is_sound before) ∙ parts.sound);
      form = ap form_of bare ∙ form;
      first = parts.first;
      last = by tail parts.last;
    })
  where
    by : (tail : List Terminal) → s.last ≡ (last_of ((f ∷ front) ++ r ∷ tail)).number → last_with tail m s.last ≡ (last_of ((f ∷ front) ++ r ∷ key keyword.CONCURRENTLY m ∷ tail)).number
    by [] h =
        ap (λ (x : Terminal). x.number)
        (sym (ap last_of (sym (append_assoc (f ∷ front) (r ∷ []) (key keyword.CONCURRENTLY m ∷ []))) ∙ last_after ((f ∷ front) ++ r ∷ []) (key keyword.CONCURRENTLY m) []))
    by (t ∷ ts) h =
        h
        ∙ ap (λ (x : Terminal). x.number)
        (ap last_of (sym (append_assoc (f ∷ front) (r ∷ []) (t ∷ ts))) ∙ last_after ((f ∷ front) ++ r ∷ []) t ts
        ∙ sym (ap last_of (sym (append_assoc (f ∷ front) (r ∷ key keyword.CONCURRENTLY m ∷ []) (t ∷ ts))) ∙ last_after ((f ∷ front) ++ r ∷ key keyword.CONCURRENTLY m ∷ []) t ts))
