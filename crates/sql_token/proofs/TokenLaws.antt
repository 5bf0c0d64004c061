-- Tokens lead from a place in one way alone.
use Rattle.std.proofs.Common.{◌≡◌, ℕ, ◌+◌, Bool, length, take, ap, List, [], ◌∷◌, ◌++◌, sym, refl, ◌∙◌, subst, arith, ◌-◌, drop, append_assoc, append-nil, true, ◌<◌, ◌≤◌}
use Rattle.std.specs.Prelude.{◌==◌}
use Rattle.std.proofs.lemmas.List.{take-append-drop, drop-drop}
use Rattle.std.specs.List.{flat_map}
use Rattle.sql_token.specs.declared.token.Tok.{Tok}
use Rattle.sql_token.specs.declared.token.TokKind.{TokKind}
use Rattle.sql_token.specs.declared.token.TokKind.TheVariants.{Blank, LineComment, BlockComment, Word, Quoted, Str, UName, Dollar, Param, Number, Op, Punct, Other}
use Rattle.sql_token.specs.Token.{Text, text_of, NeverCloses, kind_of, is_closing, At, IsRun, op_len, Takes, Leads, Lexed, OpenAt}
use Rattle.sql_token.proofs.CommentLaws.{comment_one}
use Rattle.sql_token.proofs.QuoteLaws.{quoted_one, dollar_one}

pub leads_push : (t : Text) (i m : ℕ) (ks : List Tok) (k : Tok) → Leads t i ks m → k.start ≡ m → At t m k.kind k.end → Leads t i (ks ++ k ∷ []) k.end
leads_push t i m [] k lead start here = (start ∙ sym lead, subst (λ (x : ℕ). At t x k.kind k.end) (sym lead) here, refl)
leads_push t i m (x ∷ ks) k lead start here = (lead.0, lead.1, leads_push t x.end m ks k lead.2 start here)

-- no token begins here
abbrev pub Stuck : Text → ℕ → Type 0
Stuck t i = (k : TokKind) (j : ℕ) → At t i k j → ⊥

at_kind : (t : Text) (i j l : ℕ) (k m : TokKind) → At t i k j → At t i m l → k ≡ m
at_kind t i j l k m a b = a.kind ∙ sym b.kind

run_one : (k : TokKind) (z : Text) (i a b : ℕ) → IsRun k z i a → IsRun k z i b → a ≡ b
run_one k z i a b p q = grind arith

-- a token has one length
pub takes_one : (is_start : Bool) (k : TokKind) (z : Text) (n m : ℕ) → Takes is_start k z n → Takes is_start k z m → n ≡ m
takes_one s BlockComment z n m p q = comment_one z p q
takes_one s Str z n m p q = quoted_one _ _ z _ n m p q
takes_one s UName z n m p q = quoted_one _ _ z _ n m p q
takes_one s Quoted z n m p q = quoted_one _ _ z _ n m p q
takes_one s Dollar z n m p q = dollar_one z n m p q
takes_one s Blank z n m p q = run_one _ z _ n m p q
takes_one s LineComment z n m p q = run_one _ z _ n m p q
takes_one s Param z n m p q = run_one _ z _ n m p q
takes_one s Number z n m p q = run_one _ z _ n m p q
takes_one s Word z n m p q = run_one _ z _ n m p q
takes_one s Op z n m p q = p.length ∙ ap (λ (x : ℕ). op_len (take x z)) (run_one _ z _ p.run q.run p.is_run q.is_run) ∙ sym q.length
takes_one s Punct z n m p q = p ∙ sym q
takes_one s Other z n m p q = p ∙ sym q

at_end : (t : Text) (i j l : ℕ) (k : TokKind) → At t i k j → At t i k l → j ≡ l
at_end t i j l k a b =
    let same = takes_one _ k _ (j - i) (l - i) a.takes b.takes in
    omega (arith, a.before, b.before, same)

-- a token is its three fields
tok_eq : (k l : Tok) → k.kind ≡ l.kind → k.start ≡ l.start → k.end ≡ l.end → k ≡ l
tok_eq k l kind start end = λ i. record { kind = kind i; start = start i; end = end i }

cons_eq : (k l : Tok) (ks ls : List Tok) → k ≡ l → ks ≡ ls → k ∷ ks ≡ l ∷ ls
cons_eq k l ks ls p q = λ i. p i ∷ q i

same_token : (t : Text) (i : ℕ) (k l : Tok) → k.start ≡ i → l.start ≡ i → At t i k.kind k.end → At t i l.kind l.end → k ≡ l
same_token t i k l p q a b =
    let kind = at_kind t i k.end l.end k.kind l.kind a b in
    tok_eq k l kind (p ∙ sym q) (at_end t i k.end l.end l.kind (subst (λ (x : TokKind). At t i x k.end) kind a) b)

pub one_way : (t : Text) (i a b : ℕ) (ks ls : List Tok) → Leads t i ks a → Stuck t a → Leads t i ls b → Stuck t b → (ks ≡ ls) × (a ≡ b)
one_way t i a b [] [] p s q r = (refl, sym p ∙ q)
one_way t i a b [] (l ∷ ls) p s q r = absurd (s l.kind l.end (subst (λ (x : ℕ). At t x l.kind l.end) p q.1))
one_way t i a b (k ∷ ks) [] p s q r = absurd (r k.kind k.end (subst (λ (x : ℕ). At t x k.kind k.end) q p.1))
one_way t i a b (k ∷ ks) (l ∷ ls) p s q r =
    let same = same_token t i k l p.0 q.0 p.1 q.1 in
    let rest = one_way t l.end a b ks ls (subst (λ (x : Tok). Leads t x.end ks a) same p.2) s q.2 r in
    (cons_eq k l ks ls same rest.0, rest.1)

stuck_end : (t : Text) → Stuck t (length t)
stuck_end t k j here = absurd (omega (arith, here.before, here.within))

pub one_lexed : (t : Text) (ks ls : List Tok) → Lexed t ks → Lexed t ls → ks ≡ ls
one_lexed t ks ls p q = (one_way t 0 (length t) (length t) ks ls p (stuck_end t) q (stuck_end t)).0

pub one_open : (t : Text) (a b : ℕ) → OpenAt t a → OpenAt t b → a ≡ b
one_open t a b (ks, p, s) (ls, q, r) = (one_way t 0 a b ks ls p s.never q r.never).1

pub not_both : (t : Text) (ks : List Tok) (a : ℕ) → Lexed t ks → OpenAt t a → ⊥
not_both t ks a p (ls, q, r) =
    let within = r.within in
    let same = (one_way t 0 (length t) a ks ls p (stuck_end t) q r.never).1 in
    absurd (omega arith)

-- the texts of tokens and the rest after them
texts_join : (t : Text) (i j : ℕ) (ks : List Tok) → Leads t i ks j → flat_map (text_of t) ks ++ drop j t ≡ drop i t
texts_join t i j [] p = ap (λ (x : ℕ). drop x t) (sym p)
texts_join t i j (k ∷ ks) p =
    let size : i + (k.end - i) ≡ k.end = omega (arith, p.1.before) in
    let rest : drop (k.end - i) (drop i t) ≡ drop k.end t = drop-drop (k.end - i) i t ∙ ap (λ (x : ℕ). drop x t) size in
    append_assoc (text_of t k) (flat_map (text_of t) ks) (drop j t)
    ∙ ap (λ (z : Text). text_of t k ++ z) (texts_join t k.end j ks p.2)
    ∙ (λ x. take (k.end - p.0 x) (drop (p.0 x) t) ++ drop k.end t)
    ∙ ap (λ (z : Text). take (k.end - i) (drop i t) ++ z) (sym rest)
    ∙ take-append-drop (k.end - i) (drop i t)

pub joins : (t : Text) (ks : List Tok) → Lexed t ks → flat_map (text_of t) ks ≡ t
joins t ks p = sym (append-nil _) ∙ ap (λ (z : Text). flat_map (text_of t) ks ++ z) (sym (drop_all t)) ∙ texts_join t 0 (length t) ks p
  where
    drop_all : (z : Text) → drop (length z) z ≡ []
    drop_all [] = refl
    drop_all (x ∷ z) = drop_all z

-- a token of n bytes, from what the rest z of the text shows
pub at_place : (t : Text) (i n : ℕ) (k : TokKind) {z : Text} → z ≡ drop i t → 0 < n → i + n ≤ length t → k ≡ kind_of (i == 0) z → Takes (i == 0) k z n → At t i k (i + n)
at_place t i n k {z} rest some within kind takes =
    let size : n ≡ i + n - i = omega arith in
    record {
      before = omega arith;
      within = within;
      kind = kind ∙ ap (λ (x : Text). kind_of (i == 0) x) rest;
      takes = subst (λ (x : Text). Takes (i == 0) k x (i + n - i)) rest (subst (λ (m : ℕ). Takes (i == 0) k z m) size takes);
    }

-- a token that begins at the rest z of the text and never ends
pub never_closes : (t : Text) (i : ℕ) (k : TokKind) {z : Text} → z ≡ drop i t → i < length t → k ≡ kind_of (i == 0) z → is_closing k ≡ true → ((n : ℕ) → Takes (i == 0) k z n → ⊥) → NeverCloses t i
never_closes t i k rest within kind closing never =
    let here_kind = kind ∙ ap (λ (x : Text). kind_of (i == 0) x) rest in
    record {
      within = within;
      closing = subst (λ (x : TokKind). is_closing x ≡ true) here_kind closing;
      never = λ m j here. never (j - i) (subst (λ (x : Text). Takes (i == 0) k x (j - i)) (sym rest) (subst (λ (x : TokKind). Takes (i == 0) x (drop i t) (j - i)) (here.kind ∙ sym here_kind) here.takes));
    }
