-- From the body of REINDEX back to its terminals.
use Rattle.std.proofs.Common.{◌≡◌, ℕ, suc, ◌+◌, Bool, true, false, cond, List, [], ◌∷◌, length, drop, sym, refl, ap, ◌∙◌, subst, Option, Some, None}
use Rattle.std.proofs.lemmas.Bool.{false≢true}
use Rattle.std.specs.Prelude.{◌==◌, ◌||◌}
use Rattle.std.specs.Option.{option_and_then}
use Rattle.law_edit_cuts.specs.sql_keyword.declared.words.Keyword.{Keyword}
use Rattle.law_edit_cuts.specs.sql_keyword.declared.words.Keyword.TheVariants as k
use Rattle.law_edit_cuts.specs.sql_keyword.declared.words.Verb.TheVariants as verbs
use Rattle.law_edit_cuts.specs.sql_keyword.declared.words.Object.TheVariants as objects
use Rattle.law_edit_cuts.specs.sql_keyword.declared.words.Other.TheVariants as others
use Rattle.law_edit_cuts.specs.sql_keyword.declared.words.TheConstants.Keyword as keyword
use Rattle.law_edit_cuts.specs.sql_token.declared.token.Span.{Span}
use Rattle.law_edit_cuts.specs.sql_token.declared.terminal.Symbol.{Symbol}
use Rattle.law_edit_cuts.specs.sql_token.declared.terminal.Symbol.TheVariants as s
use Rattle.law_edit_cuts.specs.sql_token.declared.terminal.Terminal.{Terminal}
use Rattle.law_edit_cuts.specs.sql_token.Terminal.{is_opener, is_closer}
use Rattle.law_edit_cuts.specs.sql_token.Depth.{one_if}
use Rattle.law_edit_cuts.specs.sql_tree.declared.kinds.StmtKind.{StmtKind}
use Rattle.law_edit_cuts.specs.sql_tree.declared.kinds.StmtKind.TheVariants as stmt
use Rattle.law_edit_cuts.specs.sql_tree.declared.forms.Family.{Family}
use Rattle.law_edit_cuts.specs.sql_tree.declared.forms.Family.TheVariants as family
use Rattle.law_edit_cuts.specs.sql_tree.declared.forms.BodyShape.{BodyShape}
use Rattle.law_edit_cuts.specs.sql_tree.declared.forms.BodyShape.TheVariants as shape
use Rattle.law_edit_cuts.specs.sql_tree.declared.nodes.Body.{Body}
use Rattle.law_edit_cuts.specs.sql_tree.declared.nodes.Body.TheVariants as body
use Rattle.law_edit_cuts.specs.sql_tree.Action.{actions_of}
use Rattle.law_edit_cuts.specs.sql_tree.Column.{domain_constraints}
use Rattle.law_edit_cuts.specs.sql_tree.Forms.{State, family_first, create_rows, alter_rows, drop_rows, rows_of, one_word_kind, led_by}
use Rattle.law_edit_cuts.specs.sql_tree.Split.{begins_with, is_verb_word}
use Rattle.law_edit_cuts.specs.sql_tree.Tails.{reindex, reindex_object, whole_path, after_flag, target_symbol, after_options}
use Rattle.law_edit_cuts.specs.sql_tree.Groups.{inside_list}
use Rattle.law_edit_cuts.specs.sql_tree.Statement.{final_kind, body_shape_of, body_by, kind_and_body, front_by, form_from, form_of}
use Rattle.law_edit_inserts.specs.Concurrently.{key}
use Rattle.law_edit_inserts.proofs.Leading.{Given, given_any, given_is, listed_rows, FrontShows, is_quiet, Leading, form_shows}
use Rattle.std.proofs.Common.{zero, ◌-◌, ◌≤◌, ◌++◌, take, arith}
use Rattle.std.proofs.lemmas.List.{take-append-drop, length-take-le}
use Rattle.law_edit_cuts.specs.sql_tree.declared.nodes.ReindexTarget.{ReindexTarget}
use Rattle.law_edit_cuts.specs.sql_tree.Split.{begins_list, closing}
use Rattle.law_edit_cuts.specs.sql_tree.Tails.{target_word, any_option, is_concurrent, is_valued}
use Rattle.law_edit_inserts.specs.Shapes.{ReindexShape, ReindexShows}
use Rattle.law_edit_inserts.specs.Shapes.ReindexShape.{bare, listed}
use Rattle.law_edit_inserts.proofs.Reindexes.{closing_some}

abbrev is_reindex_shape : BodyShape → Bool
is_reindex_shape shape.Reindex = true
is_reindex_shape _ = false

abbrev is_reindex : StmtKind → Bool
is_reindex kind = is_reindex_shape (body_shape_of kind)

abbrev ReindexSaid : List Terminal → Body → Type 0
ReindexSaid ts (body.Reindex found x false valued path) = ReindexShape found x ts
ReindexSaid ts _ = Unit {0}

abbrev Shows : List Terminal → StmtKind × Body → Type 0
Shows ts f = ReindexSaid ts f.1

-- no other shape keeps such a body
shape_shows : (ts : List Terminal) (x : BodyShape) (kind : StmtKind) (s : State) (us : List Terminal) → is_reindex_shape x ≡ false → Given (ReindexSaid ts) (body_by x kind s us)
unfolding body_by
shape_shows ts shape.Table kind s us h = given_any (ReindexSaid ts) _ s.kept.word (λ w. given_any (ReindexSaid ts) _ s.kept.path (λ path. tt))
shape_shows ts shape.Into kind s us h = given_any (ReindexSaid ts) _ s.kept.path (λ path. tt)
shape_shows ts shape.Index kind s us h = given_any (ReindexSaid ts) _ s.kept.word (λ w. given_any (ReindexSaid ts) _ s.kept.path (λ path. tt))
shape_shows ts shape.Drop kind s us h = given_any (ReindexSaid ts) _ s.kept.word (λ w. given_any (ReindexSaid ts) _ s.kept.path (λ path. tt))
shape_shows ts shape.Reindex kind s us h = absurd (false≢true (sym h))
shape_shows ts shape.Alter kind s us h = given_any (ReindexSaid ts) _ (actions_of kind s.left) (λ actions. tt)
shape_shows ts shape.Domain kind s us h = given_any (ReindexSaid ts) _ (domain_constraints s.left) (λ constraints. tt)
shape_shows ts shape.Made kind s us h = given_any (ReindexSaid ts) _ s.kept.path (λ path. tt)
shape_shows ts shape.Write kind s us h = given_any (ReindexSaid ts) _ s.kept.path (λ path. tt)
shape_shows ts x kind s us h = tt

bodies_show : (ts : List Terminal) (named : StmtKind) (r : Option Body) → Given (ReindexSaid ts) r → Given (Shows ts) (option_and_then (λ b. Some (named, b)) r)
bodies_show ts named None h = tt
bodies_show ts named (Some b) h = h

unlisted_front : (ts us : List Terminal) (kind : StmtKind) (s : State) → is_reindex kind ≡ false → FrontShows Shows ts us (kind, s)
unfolding kind_and_body
unlisted_front ts us kind s h = bodies_show ts (final_kind kind s) (body_by (body_shape_of kind) kind s us) (shape_shows ts (body_shape_of kind) kind s us h)

-- ---- what follows the word REINDEX

-- what a target word shows, where these terminals are left after the options
abbrev TargetShows : List Terminal → List Terminal → Type 0
TargetShows all left =
    (found : ReindexTarget) (w : Keyword) (x : ℕ) (rest : List Terminal) → target_word w ≡ Some found → begins_with keyword.CONCURRENTLY rest ≡ false → left ≡ key w x ∷ rest → ReindexShape found x all

object_said : (all inside left : List Terminal) → TargetShows all left → Given (ReindexSaid all) (reindex_object inside left)
unfolding reindex_object
object_said all inside [] h = tt
object_said all inside (t ∷ ts) h = by t.symbol refl
  where
    body_said : (w : Keyword) (found : ReindexTarget) (valued a b : Bool) (path : Option Span) → t.symbol ≡ s.Keyword w → target_word w ≡ Some found → begins_with keyword.CONCURRENTLY ts ≡ a →
        ReindexSaid all (body.Reindex found t.number (a || b) valued path)
    body_said w found valued true b path e f g = tt
    body_said w found valued false true path e f g = tt
    body_said w found valued false false path e f g = h found w t.number ts f g (λ i. record { symbol = e i; number = t.number } ∷ ts)

    word : (w : Keyword) (r : Option ReindexTarget) → t.symbol ≡ s.Keyword w → target_word w ≡ r →
        Given (ReindexSaid all) (option_and_then (λ found. option_and_then (λ path. Some (body.Reindex found t.number (begins_with keyword.CONCURRENTLY ts || any_option is_concurrent inside) (any_option is_valued inside) path)) (whole_path (after_flag keyword.CONCURRENTLY ts))) r)
    word w None e f = tt
    word w (Some found) e f = given_any (ReindexSaid all) _ (whole_path (after_flag keyword.CONCURRENTLY ts))
        (λ path. body_said w found (any_option is_valued inside) (begins_with keyword.CONCURRENTLY ts) (any_option is_concurrent inside) path e f refl)

    by : (x : Symbol) → t.symbol ≡ x → Given (ReindexSaid all) (option_and_then (λ found. option_and_then (λ path. Some (body.Reindex found t.number (begins_with keyword.CONCURRENTLY ts || any_option is_concurrent inside) (any_option is_valued inside) path)) (whole_path (after_flag keyword.CONCURRENTLY ts))) (target_symbol x))
    by (s.Keyword w) e = word w (target_word w) e refl
    by x e = tt

closing_within : (o c : ℕ) (ts : List Terminal) → closing o c ts ≤ length ts
closing_within o c [] = omega arith
closing_within o c (t ∷ ts) = by (o + one_if (is_opener t) == c + one_if (is_closer t)) _ (closing_within (o + one_if (is_opener t)) (c + one_if (is_closer t)) ts)
  where
    by : (b : Bool) (n : ℕ) → n ≤ length ts → cond b 1 (suc n) ≤ suc (length ts)
    by true n h = omega arith
    by false n h = omega arith

begins_taken : (n : ℕ) (t : Terminal) (ts : List Terminal) → 1 ≤ n → begins_list (take n (t ∷ ts)) ≡ begins_list (t ∷ ts)
begins_taken zero t ts h = absurd (omega arith)
begins_taken (suc n) t ts h = refl

reindex_said : (c : ℕ) (ts : List Terminal) → Given (ReindexSaid (key keyword.REINDEX c ∷ ts)) (reindex ts)
unfolding reindex inside_list after_options
reindex_said c [] = object_said (key keyword.REINDEX c ∷ []) [] [] (λ found w x rest f g e. cc)
reindex_said c (t ∷ ts) = by (begins_list (t ∷ ts)) refl
  where
    n : ℕ
    n = closing 0 0 (t ∷ ts)

    by : (b : Bool) → begins_list (t ∷ ts) ≡ b →
        Given (ReindexSaid (key keyword.REINDEX c ∷ t ∷ ts)) (reindex_object (cond b (take (n - 2) ts) []) (cond b (drop n (t ∷ ts)) (t ∷ ts)))
    by false e = object_said (key keyword.REINDEX c ∷ t ∷ ts) [] (t ∷ ts) (λ found w x rest f g p. bare c w rest f g (λ i. key keyword.REINDEX c ∷ p i))
    by true e =
        object_said (key keyword.REINDEX c ∷ t ∷ ts) (take (n - 2) ts) (drop n (t ∷ ts))
        (λ found w x rest f g p.
        let whole : t ∷ ts ≡ take n (t ∷ ts) ++ key w x ∷ rest = sym (take-append-drop n (t ∷ ts)) ∙ ap (λ (y : List Terminal). take n (t ∷ ts) ++ y) p in
        listed c (take n (t ∷ ts)) w rest f (begins_taken n t ts (closing_some 0 0 t ts) ∙ e)
        (ap (λ (y : List Terminal). closing 0 0 y) (sym whole) ∙ sym (length-take-le n (t ∷ ts) (closing_within 0 0 (t ∷ ts)))) g
        (λ i. key keyword.REINDEX c ∷ whole i))

-- ---- the first word

abbrev leads : Keyword → Bool
leads (k.Verb verbs.Reindex) = true
leads _ = false

quiet_kind : (w : Keyword) → leads w ≡ false → is_quiet is_reindex (one_word_kind w) ≡ true
unfolding one_word_kind is_quiet body_shape_of
quiet_kind (k.Verb verbs.Reindex) h = absurd (false≢true (sym h))
quiet_kind (k.Object objects.Table) h = refl
quiet_kind (k.Other others.Security) h = refl
quiet_kind w h = refl

create_quiet : (x : Family) → listed_rows is_reindex (create_rows x) ≡ []
unfolding create_rows body_shape_of
create_quiet family.Relation = refl
create_quiet x = refl

alter_quiet : (x : Family) → listed_rows is_reindex (alter_rows x) ≡ []
unfolding alter_rows body_shape_of
alter_quiet family.Relation = refl
alter_quiet x = refl

drop_quiet : (x : Family) → listed_rows is_reindex (drop_rows x) ≡ []
unfolding drop_rows body_shape_of
drop_quiet family.Relation = refl
drop_quiet x = refl

quiet_rows : (w : Keyword) (ts : List Terminal) → listed_rows is_reindex (rows_of w ts) ≡ []
unfolding rows_of body_shape_of
quiet_rows (k.Verb verbs.Create) ts = create_quiet (family_first ts)
quiet_rows (k.Verb verbs.Alter) ts = alter_quiet (family_first ts)
quiet_rows (k.Verb verbs.Drop) ts = drop_quiet (family_first ts)
quiet_rows (k.Verb w) ts = refl
quiet_rows (k.Object w) ts = refl
quiet_rows (k.Other others.Security) ts = refl
quiet_rows w ts = refl

verb_quiet : (w : Keyword) → is_verb_word w ≡ true → leads w ≡ false
verb_quiet (k.Verb verbs.Reindex) h = absurd (false≢true h)
verb_quiet w h = refl

lead_word : (w : Keyword) → leads w ≡ true → keyword.REINDEX ≡ w
lead_word (k.Verb verbs.Reindex) h = refl
lead_word w h = absurd (false≢true h)

led_shows : (c : ℕ) (ts : List Terminal) → Given (Shows (key keyword.REINDEX c ∷ ts)) (form_from (key keyword.REINDEX c ∷ ts))
unfolding form_from front_by led_by one_word_kind kind_and_body body_shape_of final_kind body_by
led_shows c ts = bodies_show (key keyword.REINDEX c ∷ ts) stmt.Reindex (reindex ts) (reindex_said c ts)

reindex_leading : Leading Shows is_reindex leads
unfolding body_shape_of
reindex_leading = record {
  none = unlisted_front;
  empty = tt;
  select = λ ts. tt;
  quiet_kind = quiet_kind;
  quiet_rows = λ w ts h. quiet_rows w ts;
  quiet_paren = refl;
  quiet_verb = verb_quiet;
  here = λ w n ts h. subst (λ (x : Keyword). Given (Shows (key x n ∷ ts)) (form_from (key x n ∷ ts))) (lead_word w h) (led_shows n ts);
}

pub reindex_shows : ReindexShows
reindex_shows ts kind found x valued path e = given_is (Shows ts) (form_of ts) (kind, body.Reindex found x false valued path) (form_shows Shows is_reindex leads reindex_leading ts) e
