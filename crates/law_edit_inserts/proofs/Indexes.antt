-- The word CONCURRENTLY after the word that its form gives.
use Rattle.std.proofs.Common.{◌≡◌, ℕ, Bool, true, false, cond, List, [], ◌∷◌, length, sym, refl, ap, ◌∙◌, Option, Some, None}
use Rattle.std.specs.Prelude.{◌==◌, ◌&&◌, ◌||◌, not, is_some}
use Rattle.std.specs.Option.{option_map, option_and_then}
use Rattle.law_edit_cuts.specs.sql_keyword.declared.words.Keyword.{Keyword}
use Rattle.law_edit_cuts.specs.sql_keyword.declared.words.TheConstants.Keyword as keyword
use Rattle.law_edit_cuts.specs.sql_keyword.Same.{same_keyword}
use Rattle.law_edit_cuts.specs.sql_token.declared.token.Span.{Span}
use Rattle.law_edit_cuts.specs.sql_token.declared.terminal.Terminal.{Terminal}
use Rattle.law_edit_cuts.specs.sql_token.Terminal.{is_keyword, is_name}
use Rattle.law_edit_cuts.specs.sql_tree.declared.kinds.StmtKind.{StmtKind}
use Rattle.law_edit_cuts.specs.sql_tree.declared.kinds.StmtKind.TheVariants as stmt
use Rattle.law_edit_cuts.specs.sql_tree.declared.forms.Captures.{Captures}
use Rattle.law_edit_cuts.specs.sql_tree.declared.forms.Fact.{Fact}
use Rattle.law_edit_cuts.specs.sql_tree.declared.forms.Fact.TheVariants as m
use Rattle.law_edit_cuts.specs.sql_tree.declared.forms.Phrase.{Phrase}
use Rattle.law_edit_cuts.specs.sql_tree.declared.forms.Phrase.TheVariants as phrase
use Rattle.law_edit_cuts.specs.sql_tree.declared.forms.Part.{Part}
use Rattle.law_edit_cuts.specs.sql_tree.declared.forms.Part.TheVariants as p
use Rattle.law_edit_cuts.specs.sql_tree.declared.nodes.Body.{Body}
use Rattle.law_edit_cuts.specs.sql_tree.declared.nodes.Body.TheVariants as body
use Rattle.law_edit_cuts.specs.sql_tree.Forms.{State, at, one, nothing_kept, name_kept, record_fact, or_here, take_phrase, after_words, words_of, names_end, index_name, guard, take_part, in_turn, finished, all_taken, fresh, family_of, create_rows, drop_rows, rows_of, one_word_kind, led_by}
use Rattle.law_edit_cuts.specs.sql_tree.Split.{begins_with}
use Rattle.law_edit_cuts.specs.sql_tree.Tails.{paths_from}
use Rattle.law_edit_cuts.specs.sql_tree.Statement.{final_kind, body_shape_of, body_by, kind_and_body, front_by, from_verb, form_from, form_of}
use Rattle.law_edit_inserts.specs.Concurrently.{key, concurrent_form, CreateIndexConcurrently, CreateUniqueIndexConcurrently, DropIndexConcurrently}
use Rattle.law_edit_inserts.proofs.IndexShapes.{index_parts}
use Rattle.law_edit_inserts.proofs.DropShapes.{drop_parts}

-- ---- captures with the mark

abbrev with_concurrently : ℕ → Captures → Captures
with_concurrently n c = record c { concurrently = Some n }

abbrev state_with_mark : ℕ → State → State
state_with_mark n s = at (with_concurrently n s.kept) s.left

-- a part that does not look at the mark
abbrev IsAside : Part → Type 0
IsAside x = (n : ℕ) (c : Captures) (ts : List Terminal) → take_part x (with_concurrently n c) ts ≡ option_map (state_with_mark n) (take_part x c ts)

one_aside : (n : ℕ) (test : Terminal → Bool) (keep : Terminal → Captures → Captures) → ((t : Terminal) (c : Captures) → keep t (with_concurrently n c) ≡ with_concurrently n (keep t c)) →
    (c : Captures) (ts : List Terminal) → one test keep (with_concurrently n c) ts ≡ option_map (state_with_mark n) (one test keep c ts)
one_aside n test keep same c [] = refl
one_aside n test keep same c (t ∷ ts) = by (test t)
  where
    by : (b : Bool) → cond b (Some (at (keep t (with_concurrently n c)) ts)) None ≡ option_map (state_with_mark n) (cond b (Some (at (keep t c) ts)) None)
    by true = λ i. Some (at (same t c i) ts)
    by false = refl

or_aside : (n : ℕ) (r : Option State) (c : Captures) (ts : List Terminal) → or_here (option_map (state_with_mark n) r) (with_concurrently n c) ts ≡ state_with_mark n (or_here r c ts)
or_aside n None c ts = refl
or_aside n (Some s) c ts = refl

phrase_aside : (n : ℕ) (f : Phrase) (mark : Fact) → ((c : Captures) → record_fact mark (with_concurrently n c) ≡ with_concurrently n (record_fact mark c)) → (c : Captures) (ts : List Terminal) →
    take_phrase f mark (with_concurrently n c) ts ≡ option_map (state_with_mark n) (take_phrase f mark c ts)
phrase_aside n f mark same c ts = by (after_words (words_of f) ts)
  where
    by : (r : Option (List Terminal)) → option_and_then (λ rest. Some (at (record_fact mark (with_concurrently n c)) rest)) r ≡ option_map (state_with_mark n) (option_and_then (λ rest. Some (at (record_fact mark c) rest)) r)
    by None = refl
    by (Some rest) = λ i. Some (at (same c i) rest)

word_aside : (w : Keyword) → IsAside (p.Word w)
unfolding take_part
word_aside w n c ts = one_aside n (is_keyword w) nothing_kept (λ t c. refl) c ts

only_aside : (w : Keyword) → IsAside (p.Flag w m.Nothing)
unfolding take_part
only_aside w n c ts =
    ap (λ (x : Option State). Some (or_here x (with_concurrently n c) ts)) (one_aside n (is_keyword w) (λ t c. record_fact m.Nothing c) (λ t c. refl) c ts)
    ∙ ap Some (or_aside n (one (is_keyword w) (λ t c. record_fact m.Nothing c) c ts) c ts)

guarded_aside : (f : Phrase) → IsAside (p.Maybe f m.Guarded)
unfolding take_part
guarded_aside f n c ts =
    ap (λ (x : Option State). Some (or_here x (with_concurrently n c) ts)) (phrase_aside n f m.Guarded (λ c. refl) c ts)
    ∙ ap Some (or_aside n (take_phrase f m.Guarded c ts) c ts)

path_aside : IsAside p.Path
unfolding take_part
path_aside n c [] = refl
path_aside n c (t ∷ ts) = by (is_name t)
  where
    by : (b : Bool) →
        cond b (Some (at (record (with_concurrently n c) { path = Some (record { first = t.number; last = (names_end t.number ts).0 }) }) (names_end t.number ts).1)) None
        ≡ option_map (state_with_mark n) (cond b (Some (at (record c { path = Some (record { first = t.number; last = (names_end t.number ts).0 }) }) (names_end t.number ts).1)) None)
    by true = refl
    by false = refl

rest_aside : IsAside p.Rest
unfolding take_part
rest_aside n c ts = refl

name_aside : (n : ℕ) (c : Captures) (ts : List Terminal) → index_name (with_concurrently n c) ts ≡ option_map (state_with_mark n) (index_name c ts)
name_aside n c ts = one_aside n (λ t. is_name t && not (is_keyword keyword.ON t)) name_kept (λ t c. refl) c ts

index_name_aside : IsAside p.IndexName
unfolding take_part
index_name_aside n c ts =
    let guarded : guard (with_concurrently n c) ts ≡ state_with_mark n (guard c ts) =
    ap (λ (x : Option State). or_here x (with_concurrently n c) ts) (phrase_aside n phrase.IfNotExists m.Guarded (λ c. refl) c ts)
    ∙ or_aside n (take_phrase phrase.IfNotExists m.Guarded c ts) c ts in
    ap (λ (x : State). Some (or_here (index_name x.kept x.left) (with_concurrently n c) ts)) guarded
    ∙ ap (λ (x : Option State). Some (or_here x (with_concurrently n c) ts)) (name_aside n (guard c ts).kept (guard c ts).left)
    ∙ ap Some (or_aside n (index_name (guard c ts).kept (guard c ts).left) c ts)

-- parts one after another
abbrev AllAside : List Part → Type 0
AllAside [] = Unit {0}
AllAside (x ∷ xs) = IsAside x × AllAside xs

turn_next : (n : ℕ) (xs : List Part) → ((s : State) → in_turn xs (with_concurrently n s.kept) s.left ≡ option_map (state_with_mark n) (in_turn xs s.kept s.left)) → (r : Option State) →
    option_and_then (λ s. in_turn xs s.kept s.left) (option_map (state_with_mark n) r) ≡ option_map (state_with_mark n) (option_and_then (λ s. in_turn xs s.kept s.left) r)
turn_next n xs each None = refl
turn_next n xs each (Some s) = each s

turn_aside : (xs : List Part) → AllAside xs → (n : ℕ) (c : Captures) (ts : List Terminal) → in_turn xs (with_concurrently n c) ts ≡ option_map (state_with_mark n) (in_turn xs c ts)
turn_aside [] all n c ts = refl
turn_aside (x ∷ xs) all n c ts =
    ap (λ (r : Option State). option_and_then (λ s. in_turn xs s.kept s.left) r) (all.0 n c ts)
    ∙ turn_next n xs (λ s. turn_aside xs all.1 n s.kept s.left) (take_part x c ts)

-- what parts leave, where all is taken
abbrev whole : List Part → Captures → List Terminal → Option State
whole xs c ts = option_and_then all_taken (in_turn xs c ts)

whole_aside : (xs : List Part) → AllAside xs → (n : ℕ) (c : Captures) (ts : List Terminal) → whole xs (with_concurrently n c) ts ≡ option_map (state_with_mark n) (whole xs c ts)
whole_aside xs all n c ts = ap (λ (r : Option State). option_and_then all_taken r) (turn_aside xs all n c ts) ∙ by (in_turn xs c ts)
  where
    taken : (s : State) (b : Bool) → cond b (Some (state_with_mark n s)) None ≡ option_map (state_with_mark n) (cond b (Some s) None)
    taken s true = refl
    taken s false = refl

    by : (r : Option State) → option_and_then all_taken (option_map (state_with_mark n) r) ≡ option_map (state_with_mark n) (option_and_then all_taken r)
    by None = refl
    by (Some s) = taken s (s.kept.open_ended || length s.left == 0)

-- the word, there or not
concurrent_turn : (xs : List Part) (n : ℕ) (c : Captures) (ts : List Terminal) → whole (p.Concurrently ∷ xs) c (key keyword.CONCURRENTLY n ∷ ts) ≡ whole xs (with_concurrently n c) ts
unfolding take_part is_keyword same_keyword
concurrent_turn xs n c ts = refl

unmarked_turn : (xs : List Part) (c : Captures) (ts : List Terminal) → begins_with keyword.CONCURRENTLY ts ≡ false → whole (p.Concurrently ∷ xs) c ts ≡ whole xs c ts
unfolding take_part
unmarked_turn xs c [] h = refl
unmarked_turn xs c (t ∷ ts) h = λ i. whole xs (chosen (h i)).kept (chosen (h i)).left
  where
    chosen : Bool → State
    chosen b = or_here (cond b (Some (at (record c { concurrently = Some t.number }) ts)) None) c (t ∷ ts)

concurrent_or_not : (xs : List Part) → AllAside xs → (n : ℕ) (c : Captures) (ts : List Terminal) → begins_with keyword.CONCURRENTLY ts ≡ false →
    whole (p.Concurrently ∷ xs) c (key keyword.CONCURRENTLY n ∷ ts) ≡ option_map (state_with_mark n) (whole (p.Concurrently ∷ xs) c ts)
concurrent_or_not xs all n c ts h = concurrent_turn xs n c ts ∙ whole_aside xs all n c ts ∙ ap (λ (x : Option State). option_map (state_with_mark n) x) (sym (unmarked_turn xs c ts h))

-- ---- what is known of a statement

abbrev form_by : StmtKind → List Terminal → Option State → Option (StmtKind × Body)
form_by kind ts r = option_and_then (λ s. kind_and_body ts (kind, s)) r

finished_form : (kind : StmtKind) (xs : List Part) (c : Captures) (ts us : List Terminal) →
    option_and_then (kind_and_body us) (finished kind xs (at c ts)) ≡ form_by kind us (whole xs c ts)
finished_form kind xs c ts us = by (in_turn xs c ts)
  where
    next : (r : Option State) → option_and_then (kind_and_body us) (option_and_then (λ w. Some (kind, w)) r) ≡ form_by kind us r
    next None = refl
    next (Some w) = refl

    by : (r : Option State) → option_and_then (kind_and_body us) (option_and_then (λ e. option_and_then (λ w. Some (kind, w)) (all_taken e)) r) ≡ form_by kind us (option_and_then all_taken r)
    by None = refl
    by (Some e) = next (all_taken e)

form_by_concurrently : (kind : StmtKind) (n : ℕ) (ts us : List Terminal) → ((s : State) → kind_and_body us (kind, state_with_mark n s) ≡ option_map (concurrent_form n) (kind_and_body ts (kind, s))) → (r : Option State) →
    form_by kind us (option_map (state_with_mark n) r) ≡ option_map (concurrent_form n) (form_by kind ts r)
form_by_concurrently kind n ts us each None = refl
form_by_concurrently kind n ts us each (Some s) = each s

index_concurrently : (n : ℕ) (ts us : List Terminal) (s : State) → kind_and_body us (stmt.CreateIndex, state_with_mark n s) ≡ option_map (concurrent_form n) (kind_and_body ts (stmt.CreateIndex, s))
unfolding kind_and_body body_shape_of final_kind body_by
index_concurrently n ts us s = by s.kept.word s.kept.path
  where
    by : (word : Option ℕ) (path : Option Span) →
        option_and_then (λ b. Some (stmt.CreateIndex, b)) (option_and_then (λ w. option_and_then (λ p. Some (body.Index w s.kept.unique (Some n) s.kept.guarded s.kept.name p)) path) word)
        ≡ option_map (concurrent_form n) (option_and_then (λ b. Some (stmt.CreateIndex, b)) (option_and_then (λ w. option_and_then (λ p. Some (body.Index w s.kept.unique s.kept.concurrently s.kept.guarded s.kept.name p)) path) word))
    by None path = refl
    by (Some w) None = refl
    by (Some w) (Some p) = refl

drop_concurrently : (n : ℕ) (ts us : List Terminal) (s : State) → kind_and_body us (stmt.DropIndex, state_with_mark n s) ≡ option_map (concurrent_form n) (kind_and_body ts (stmt.DropIndex, s))
unfolding kind_and_body body_shape_of final_kind body_by
drop_concurrently n ts us s = by s.kept.word s.kept.path
  where
    by : (word : Option ℕ) (path : Option Span) →
        option_and_then (λ b. Some (stmt.DropIndex, b)) (option_and_then (λ w. option_and_then (λ p. Some (body.Drop w true s.kept.guarded (paths_from p.first p.last s.left))) path) word)
        ≡ option_map (concurrent_form n) (option_and_then (λ b. Some (stmt.DropIndex, b)) (option_and_then (λ w. option_and_then (λ p. Some (body.Drop w (is_some s.kept.concurrently) s.kept.guarded (paths_from p.first p.last s.left))) path) word))
    by None path = refl
    by (Some w) None = refl
    by (Some w) (Some p) = refl

-- ---- CREATE INDEX and DROP INDEX

index_aside : AllAside index_parts
index_aside = (index_name_aside, (word_aside keyword.ON, (only_aside keyword.ONLY, (path_aside, (rest_aside, tt)))))

drop_aside : AllAside drop_parts
drop_aside = (guarded_aside phrase.IfExists, (path_aside, (rest_aside, tt)))

abbrev led : ℕ → Captures
led x = record fresh { word = Some x }

abbrev led_unique : ℕ → Captures
led_unique x = record fresh { word = Some x; unique = true }

create_form : (c x : ℕ) (ts : List Terminal) →
    form_of (key keyword.CREATE c ∷ key keyword.INDEX x ∷ ts) ≡ option_and_then (kind_and_body (key keyword.INDEX x ∷ ts)) (finished stmt.CreateIndex (p.Concurrently ∷ index_parts) (at (led x) ts))
unfolding form_of from_verb form_from front_by led_by one_word_kind rows_of family_of create_rows take_part is_keyword same_keyword
create_form c x ts = refl

unique_form : (c u x : ℕ) (ts : List Terminal) →
    form_of (key keyword.CREATE c ∷ key keyword.UNIQUE u ∷ key keyword.INDEX x ∷ ts)
    ≡ option_and_then (kind_and_body (key keyword.UNIQUE u ∷ key keyword.INDEX x ∷ ts)) (finished stmt.CreateIndex (p.Concurrently ∷ index_parts) (at (led_unique x) ts))
unfolding form_of from_verb form_from front_by led_by one_word_kind rows_of family_of create_rows take_part is_keyword same_keyword
unique_form c u x ts = refl

drop_form : (c x : ℕ) (ts : List Terminal) →
    form_of (key keyword.DROP c ∷ key keyword.INDEX x ∷ ts) ≡ option_and_then (kind_and_body (key keyword.INDEX x ∷ ts)) (finished stmt.DropIndex (p.Concurrently ∷ drop_parts) (at (led x) ts))
unfolding form_of from_verb form_from front_by led_by one_word_kind rows_of family_of drop_rows take_part is_keyword same_keyword
drop_form c x ts = refl

both_concurrently : (kind : StmtKind) (xs : List Part) → AllAside xs → (n : ℕ) (c : Captures) (rest ts us : List Terminal) → begins_with keyword.CONCURRENTLY rest ≡ false →
    ((s : State) → kind_and_body us (kind, state_with_mark n s) ≡ option_map (concurrent_form n) (kind_and_body ts (kind, s))) →
    option_and_then (kind_and_body us) (finished kind (p.Concurrently ∷ xs) (at c (key keyword.CONCURRENTLY n ∷ rest)))
    ≡ option_map (concurrent_form n) (option_and_then (kind_and_body ts) (finished kind (p.Concurrently ∷ xs) (at c rest)))
both_concurrently kind xs all n c rest ts us h each =
    finished_form kind (p.Concurrently ∷ xs) c (key keyword.CONCURRENTLY n ∷ rest) us
    ∙ ap (λ (r : Option State). form_by kind us r) (concurrent_or_not xs all n c rest h)
    ∙ form_by_concurrently kind n ts us each (whole (p.Concurrently ∷ xs) c rest)
    ∙ ap (λ (r : Option (StmtKind × Body)). option_map (concurrent_form n) r) (sym (finished_form kind (p.Concurrently ∷ xs) c rest ts))

pub create_index_concurrently : CreateIndexConcurrently
create_index_concurrently c x n rest h =
    let ts = key keyword.INDEX x ∷ rest in let us = key keyword.INDEX x ∷ key keyword.CONCURRENTLY n ∷ rest in
    create_form c x (key keyword.CONCURRENTLY n ∷ rest)
    ∙ both_concurrently stmt.CreateIndex index_parts index_aside n (led x) rest ts us h (index_concurrently n ts us)
    ∙ ap (λ (r : Option (StmtKind × Body)). option_map (concurrent_form n) r) (sym (create_form c x rest))

pub create_unique_index_concurrently : CreateUniqueIndexConcurrently
create_unique_index_concurrently c u x n rest h =
    let ts = key keyword.UNIQUE u ∷ key keyword.INDEX x ∷ rest in let us = key keyword.UNIQUE u ∷ key keyword.INDEX x ∷ key keyword.CONCURRENTLY n ∷ rest in
    unique_form c u x (key keyword.CONCURRENTLY n ∷ rest)
    ∙ both_concurrently stmt.CreateIndex index_parts index_aside n (led_unique x) rest ts us h (index_concurrently n ts us)
    ∙ ap (λ (r : Option (StmtKind × Body)). option_map (concurrent_form n) r) (sym (unique_form c u x rest))

pub drop_index_concurrently : DropIndexConcurrently
drop_index_concurrently c x n rest h =
    let ts = key keyword.INDEX x ∷ rest in let us = key keyword.INDEX x ∷ key keyword.CONCURRENTLY n ∷ rest in
    drop_form c x (key keyword.CONCURRENTLY n ∷ rest)
    ∙ both_concurrently stmt.DropIndex drop_parts drop_aside n (led x) rest ts us h (drop_concurrently n ts us)
    ∙ ap (λ (r : Option (StmtKind × Body)). option_map (concurrent_form n) r) (sym (drop_form c x rest))
