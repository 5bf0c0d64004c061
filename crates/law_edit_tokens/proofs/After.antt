-- After a change the tokens stay, moved.
use Rattle.std.proofs.Common.{◌≡◌, ℕ, ◌+◌, ◌-◌, ◌<◌, ◌≤◌, Bool, true, false, List, [], ◌∷◌, ◌++◌, map, length, take, drop, length-drop, length-append, sym, refl, ap, ◌∙◌, subst, arith}
use Rattle.std.proofs.lemmas.List.{drop-drop, drop_at, take_at, length-take-le}
use Rattle.std.specs.Prelude.{◌==◌, if◌then◌else◌}
use Rattle.law_renumber.specs.sql_token.declared.token.Tok.{Tok}
use Rattle.law_renumber.specs.sql_token.declared.token.TokKind.{TokKind}
use Rattle.law_renumber.specs.sql_token.declared.token.TokKind.TheVariants.{Blank, LineComment, BlockComment, Word, Quoted, Str, UName, Dollar, Param, Number, Op, Punct, Other}
use Rattle.law_renumber.specs.sql_token.Token.{Text, At, Leads, Lexed, kind_of, Takes, begins_byte_order_mark, IsRun}
use Rattle.law_renumber.proofs.of_sql_token.Ahead.{Agree}
use Rattle.law_renumber.proofs.of_sql_token.Reread.{at_rest}
use Rattle.law_edit_tokens.specs.Exchange.{exchanged, tok_moved, FirstStays, Cut, reread, Rereads, RereadsAfterOne, FirstIsFree}
use Rattle.law_edit_tokens.proofs.Same.{agree_take}
use Rattle.law_edit_tokens.proofs.KindOf.{kind_unstarted}
use Rattle.law_edit_tokens.proofs.Prefix.{prefix_stays, two_stay, leads_grow, not_first}

-- ---- the exchanged text

pub exchanged_prefix : (t w : Text) (a b : ℕ) → a ≤ length t → take a (exchanged t a b w) ≡ take a t
exchanged_prefix t w a b h = take_at (take a t) (w ++ drop b t) a (length-take-le a t h)

pub exchanged_at : (t w : Text) (a b : ℕ) → a ≤ length t → drop a (exchanged t a b w) ≡ w ++ drop b t
exchanged_at t w a b h = drop_at (take a t) (w ++ drop b t) a (length-take-le a t h)

pub exchanged_after : (t w : Text) (a b : ℕ) → a ≤ length t → drop (a + length w) (exchanged t a b w) ≡ drop b t
exchanged_after t w a b h =
    sym (drop-drop (length w) a (exchanged t a b w))
    ∙ ap (λ (x : Text). drop (length w) x) (exchanged_at t w a b h)
    ∙ drop_at w (drop b t) (length w) refl

pub exchanged_length : (t w : Text) (a b : ℕ) → a ≤ length t → length (exchanged t a b w) ≡ a + length w + (length t - b)
exchanged_length t w a b h =
    omega (arith, length-append (take a t) (w ++ drop b t), length-take-le a t h, length-append w (drop b t), length-drop b t)

pub exchanged_agrees : (t w : Text) (a b : ℕ) → a ≤ length t → Agree t (exchanged t a b w) a
exchanged_agrees t w a b h =
    agree_take t (exchanged t a b w) a h (omega (arith, exchanged_length t w a b h)) (sym (exchanged_prefix t w a b h))

-- ---- tokens one after another

pub leads_append : (t : Text) (i m e : ℕ) (ks ls : List Tok) → Leads t i ks m → Leads t m ls e → Leads t i (ks ++ ls) e
leads_append t i m e [] ls p q = subst (λ (x : ℕ). Leads t x ls e) (sym p) q
leads_append t i m e (k ∷ ks) ls p q = (p.0, p.1, leads_append t k.end m e ks ls p.2 q)

pub leads_within : (t : Text) (i e : ℕ) (ks : List Tok) → i ≤ length t → Leads t i ks e → e ≤ length t
leads_within t i e [] h lead = omega (arith, lead)
leads_within t i e (k ∷ ks) h lead = let within = lead.1.within in leads_within t k.end e ks within lead.2

-- tokens in two parts
pub leads_split : (t : Text) (i e : ℕ) (front : List Tok) (k : Tok) (after : List Tok) → Leads t i (front ++ k ∷ after) e → Leads t i front k.start × Leads t k.start (k ∷ after) e
leads_split t i e [] k after lead = (sym lead.0, subst (λ (x : ℕ). Leads t x (k ∷ after) e) (sym lead.0) lead)
leads_split t i e (l ∷ front) k after lead = let rest = leads_split t l.end e front k after lead.2 in ((lead.0, lead.1, rest.0), rest.1)

-- where the first of these tokens end
pub record LeadsAt (t : Text) (i e : ℕ) (ks ls : List Tok) : Type 0 where
  pub place : ℕ
  pub before : Leads t i ks place
  pub after : Leads t place ls e

pub leads_at : (t : Text) (i e : ℕ) (ks ls : List Tok) → Leads t i (ks ++ ls) e → LeadsAt t i e ks ls
leads_at t i e [] ls lead = record { place = i; before = refl; after = lead }
leads_at t i e (k ∷ ks) ls lead = let r = leads_at t k.end e ks ls lead.2 in record { place = r.place; before = (lead.0, lead.1, r.before); after = r.after }

-- ---- after the change

at_moved : (t u : Text) (b c i e : ℕ) (k : TokKind) → drop b t ≡ drop c u → b ≤ i → 0 < i → 0 < c + (i - b) → At t i k e → At u (c + (i - b)) k (c + (e - b))
at_moved t u b c i e k same low first first' here =
    let before = here.before in
    let place : b + (i - b) ≡ i = omega arith in
    let end : i + (e - i) ≡ e = omega arith in
    let end' : c + (i - b) + (e - i) ≡ c + (e - b) = omega arith in
    let rest : drop i t ≡ drop (c + (i - b)) u =
    sym (drop-drop (i - b) b t ∙ ap (λ (x : ℕ). drop x t) place)
    ∙ ap (λ (x : Text). drop (i - b) x) same
    ∙ drop-drop (i - b) c u in
    subst (λ (x : ℕ). At u (c + (i - b)) k x) end' (at_rest t u i (c + (i - b)) (e - i) k first first' rest (subst (λ (x : ℕ). At t i k x) (sym end) here))

after_stays : (t u : Text) (b c i e : ℕ) (ks : List Tok) → drop b t ≡ drop c u → b ≤ i → 0 < i → 0 < c + (i - b) → Leads t i ks e →
    Leads u (c + (i - b)) (map (tok_moved b c) ks) (c + (e - b))
after_stays t u b c i e [] same low first first' lead = ap (λ (x : ℕ). c + (x - b)) lead
after_stays t u b c i e (k ∷ ks) same low first first' lead =
    let before = lead.1.before in (
      ap (λ (x : ℕ). c + (x - b)) lead.0,
      at_moved t u b c i k.end k.kind same low first first' lead.1,
      after_stays t u b c k.end e ks same (omega arith) (omega arith) (omega arith) lead.2,
    )

-- ---- the law

all_after : (t u : Text) (b c e : ℕ) (ks : List Tok) → drop b t ≡ drop c u → Leads t b ks e → FirstStays u b c ks → Leads u c (map (tok_moved b c) ks) (c + (e - b))
all_after t u b c e [] same lead first = omega (arith, lead)
all_after t u b c e (k ∷ ks) same lead first =
    let before = lead.1.before in
    (omega (arith, lead.0), first, after_stays t u b c k.end e ks same (omega arith) (omega arith) (omega arith) lead.2)

rest_leads : (t w : Text) (a b : ℕ) (front run new after : List Tok) → Cut t a b front run after → Leads (exchanged t a b w) 0 front a →
    Leads (exchanged t a b w) a new (a + length w) → FirstStays (exchanged t a b w) b (a + length w) after →
    Lexed (exchanged t a b w) (reread front new b (a + length w) after)
rest_leads t w a b front run new after cut before fresh first =
    let u : Text = exchanged t a b w in
    let c : ℕ = a + length w in
    let low : a ≤ length t = leads_within t 0 a front (omega arith) cut.until_run in
    let size = exchanged_length t w a b low in
    let grow = leads_grow t b (length t) after cut.after_run in
    let end : c + (length t - b) ≡ length u = omega arith in
    let moved = all_after t u b c (length t) after (sym (exchanged_after t w a b low)) cut.after_run first in
    leads_append u 0 a (length u) front (new ++ map (tok_moved b c) after) before
    (leads_append u a c (length u) new (map (tok_moved b c) after) fresh (subst (λ (x : ℕ). Leads u c (map (tok_moved b c) after) x) end moved))

pub rereads : Rereads
rereads t w a b front run new after cut last fresh first =
    let low : a ≤ length t = leads_within t 0 a front (omega arith) cut.until_run in
    rest_leads t w a b front run new after cut
    (two_stay t (exchanged t a b w) a (exchanged_agrees t w a b low) 0 front cut.until_run last) fresh first

pub rereads_after_one : RereadsAfterOne
rereads_after_one t w a b front run new after cut last fresh first =
    let low : a ≤ length t = leads_within t 0 a front (omega arith) cut.until_run in
    rest_leads t w a b front run new after cut
    (prefix_stays t (exchanged t a b w) a (exchanged_agrees t w a b low) 0 front cut.until_run last) fresh first

pub first_is_free : FirstIsFree
first_is_free t w a b front run [] cut some some' = tt
first_is_free t w a b front run (k ∷ ks) cut some some' =
    let low : a ≤ length t = leads_within t 0 a front (omega arith) cut.until_run in
    let zero : a + length w + (b - b) ≡ a + length w = omega arith in
    subst (λ (x : ℕ). At (exchanged t a b w) x k.kind (a + length w + (k.end - b))) zero
    (at_moved t (exchanged t a b w) b (a + length w) b k.end k.kind (sym (exchanged_after t w a b low)) (omega arith) some (omega arith) cut.after_run.1)

-- ---- from the start of the text

takes_unstarted : (k : TokKind) (z : Text) (n : ℕ) → begins_byte_order_mark z ≡ false → Takes true k z n → Takes false k z n
takes_unstarted Blank z n mark takes = subst (λ (x : ℕ). IsRun Blank z x n) (λ x. if mark x then 3 else 1) takes
takes_unstarted LineComment z n mark takes = takes
takes_unstarted BlockComment z n mark takes = takes
takes_unstarted Word z n mark takes = takes
takes_unstarted Quoted z n mark takes = takes
takes_unstarted Str z n mark takes = takes
takes_unstarted UName z n mark takes = takes
takes_unstarted Dollar z n mark takes = takes
takes_unstarted Param z n mark takes = takes
takes_unstarted Number z n mark takes = takes
takes_unstarted Op z n mark takes = takes
takes_unstarted Punct z n mark takes = takes
takes_unstarted Other z n mark takes = takes

-- a token at the start of a text that begins with no byte order mark
pub at_unstarted : (t u : Text) (c e : ℕ) (k : TokKind) → begins_byte_order_mark t ≡ false → 0 < c → t ≡ drop c u → At t 0 k e → At u c k (c + e)
at_unstarted t u c e k mark some same here =
    let before = here.before in
    let within = here.within in
    let size : e ≡ c + e - c = omega arith in
    let kind = here.kind ∙ kind_unstarted t mark in
    let whole : e - 0 ≡ e = omega arith in
    let takes = takes_unstarted k t e mark (subst (λ (x : ℕ). Takes true k t x) whole here.takes) in
    let flag = sym (not_first c some) in
    record {
      before = omega arith;
      within = omega (arith, ap length same, length-drop c u);
      kind = kind ∙ (λ x. kind_of (flag x) (same x));
      takes = subst (λ (m : ℕ). Takes (c == 0) k (drop c u) m) size (subst (λ (s : Bool). Takes s k (drop c u) e) flag (subst (λ (z : Text). Takes false k z e) same takes));
    }
