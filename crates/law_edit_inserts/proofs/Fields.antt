-- CREATE INDEX, DROP INDEX and REINDEX with the word CONCURRENTLY: the mark is set, and nothing else changes.
use Rattle.std.proofs.Common.{◌≡◌, ℕ, zero, suc, ◌+◌, ◌-◌, Bool, true, false, cond, List, [], ◌∷◌, ◌++◌, map, length, take, append_assoc, append-nil, sym, refl, ap, ◌∙◌, arith, Option, Some}
use Rattle.std.proofs.lemmas.Bool.{false≢true}
use Rattle.std.proofs.lemmas.Bool.Decides.{nat_tests}
use Rattle.std.proofs.lemmas.List.{map-append, length-map}
use Rattle.std.specs.Option.{option_map}
use Rattle.law_edit_cuts.specs.sql_keyword.declared.words.Keyword.{Keyword}
use Rattle.law_edit_cuts.specs.sql_keyword.declared.words.TheConstants.Keyword as keyword
use Rattle.law_edit_cuts.specs.sql_token.declared.terminal.Symbol.{Symbol}
use Rattle.law_edit_cuts.specs.sql_token.declared.terminal.Symbol.TheVariants as s
use Rattle.law_edit_cuts.specs.sql_token.declared.terminal.Terminal.{Terminal}
use Rattle.law_edit_cuts.specs.sql_token.Terminal.{is_keyword, is_keyword_symbol, is_name, is_opener, is_closer, is_semicolon, is_opener_symbol, is_closer_symbol, is_semicolon_symbol}
use Rattle.law_edit_cuts.specs.sql_token.Depth.{opened, closed}
use Rattle.law_edit_cuts.specs.sql_tree.declared.kinds.StmtKind.{StmtKind}
use Rattle.law_edit_cuts.specs.sql_tree.declared.nodes.Body.{Body}
use Rattle.law_edit_cuts.specs.sql_tree.declared.nodes.ReindexTarget.{ReindexTarget}
use Rattle.law_edit_cuts.specs.sql_tree.declared.nodes.Stmt.{Stmt}
use Rattle.law_edit_cuts.specs.sql_tree.Split.{begins_with, begins_list, closing}
use Rattle.law_edit_cuts.specs.sql_tree.Statement.{form_of, last_of, statement, without_semicolon}
use Rattle.law_edit_cuts.specs.law_renumber.Moved.{stmt_moved}
use Rattle.law_edit_cuts.specs.law_renumber.Renumber.{renumber}
use Rattle.law_edit_cuts.proofs.of_law_renumber.Marks.{closing_renumbers}
use Rattle.law_edit_cuts.proofs.of_law_renumber.Seen.{numbers, keyword_sees}
use Rattle.law_edit_cuts.proofs.of_law_renumber.Statements.{statement_renumbers}
use Rattle.law_edit_cuts.proofs.Nested.{opened_is, closed_is}
use Rattle.law_edit_tokens.specs.Beside.{is_punct_symbol, begins_punct_or_ends}
use Rattle.law_edit_tokens.specs.Terminals.{moved_number}
use Rattle.law_edit_inserts.specs.Concurrently.{key, concurrent_body, concurrent_form}
use Rattle.law_edit_inserts.specs.Shapes.{IndexShape, DropShape, ReindexShape}
use Rattle.law_edit_inserts.specs.Shapes.IndexShape.{plain, unique}
use Rattle.law_edit_inserts.specs.Shapes.ReindexShape.{bare, listed}
use Rattle.law_edit_inserts.specs.Built.{room_after, concurrent_stmt, TakesConcurrently, ConcurrentlyReads}
use Rattle.law_edit_inserts.specs.Built.TakesConcurrently.{index, dropped, rebuilt}
use Rattle.law_edit_inserts.proofs.Apart.{lasts}
use Rattle.law_edit_inserts.proofs.DropShapes.{drop_index_shows}
use Rattle.law_edit_inserts.proofs.Indexes.{create_index_concurrently, create_unique_index_concurrently, drop_index_concurrently}
use Rattle.law_edit_inserts.proofs.IndexShapes.{create_index_shows}
use Rattle.law_edit_inserts.proofs.Inserted.{Takes, inserted, last_is}
use Rattle.law_edit_inserts.proofs.TakenConcurrently.{bare_after, bare_one, last_with, parts_of, word_reads}
use Rattle.law_edit_inserts.proofs.ReindexShapes.{reindex_shows}
use Rattle.law_edit_inserts.proofs.Reindexes.{reindex_concurrently, reindex_options_concurrently, closing_same}

-- ---- the end of a statement

-- its semicolon, or nothing
pub record Ended (us : List Terminal) : Type 0 where
  pub end : List Terminal
  pub parts : us ≡ without_semicolon us ++ end
  pub quiet : begins_with keyword.CONCURRENTLY end ≡ false
  pub mark : begins_punct_or_ends end ≡ true
  pub opens : opened end ≡ 0
  pub closes : closed end ≡ 0

semicolon_none : (x : Symbol) → is_semicolon_symbol x ≡ true → is_keyword_symbol keyword.CONCURRENTLY x ≡ false
semicolon_none s.Semicolon h = refl
semicolon_none x h = absurd (false≢true h)

semicolon_mark : (x : Symbol) → is_semicolon_symbol x ≡ true → is_punct_symbol x ≡ true
semicolon_mark s.Semicolon h = refl
semicolon_mark x h = absurd (false≢true h)

semicolon_flat : (x : Symbol) → is_semicolon_symbol x ≡ true → (is_opener_symbol x ≡ false) × (is_closer_symbol x ≡ false)
semicolon_flat s.Semicolon h = (refl, refl)
semicolon_flat x h = absurd (false≢true h)

pub ended : (us : List Terminal) → Ended us
unfolding is_semicolon is_keyword is_opener is_closer
ended [] = record { end = []; parts = refl; quiet = refl; mark = refl; opens = refl; closes = refl }
ended (t ∷ ts) = by (is_semicolon_symbol (lasts t ts).end.symbol) refl
  where
    bare_is : without_semicolon (t ∷ ts) ≡ (lasts t ts).front ++ without_semicolon ((lasts t ts).end ∷ [])
    bare_is = let l = lasts t ts in ap without_semicolon l.parts ∙ bare_after l.front l.end []

    split : (b : Bool) → List Terminal
    split b = cond b [] ((lasts t ts).end ∷ [])

    by : (b : Bool) → is_semicolon_symbol (lasts t ts).end.symbol ≡ b → Ended (t ∷ ts)
    by true e = record {
      end = (lasts t ts).end ∷ [];
      parts = (let l = lasts t ts in l.parts) ∙ sym (ap (λ (x : List Terminal). x ++ (lasts t ts).end ∷ []) (bare_is ∙ ap (λ (b : Bool). (lasts t ts).front ++ split b) e ∙ append-nil (lasts t ts).front));
      quiet = semicolon_none (lasts t ts).end.symbol e;
      mark = semicolon_mark (lasts t ts).end.symbol e;
      opens = opened_is (lasts t ts).end [] false (semicolon_flat (lasts t ts).end.symbol e).0;
      closes = closed_is (lasts t ts).end [] false (semicolon_flat (lasts t ts).end.symbol e).1;
    }
    by false e = record {
      end = [];
      parts = (let l = lasts t ts in l.parts) ∙ sym (append-nil (without_semicolon (t ∷ ts)) ∙ bare_is ∙ ap (λ (b : Bool). (lasts t ts).front ++ split b) e);
      quiet = refl;
      mark = refl;
      opens = refl;
      closes = refl;
    }

-- ---- a form that takes the word

-- the law of a form whose terminals up to r are these
abbrev pub FormTakesConcurrently : List Terminal → Terminal → ℕ → Type 0
FormTakesConcurrently front r n =
    (rest : List Terminal) → begins_with keyword.CONCURRENTLY rest ≡ false →
    form_of (front ++ r ∷ key keyword.CONCURRENTLY n ∷ rest) ≡ option_map (concurrent_form n) (form_of (front ++ r ∷ rest))

take_none : (n : ℕ) (ts : List Terminal) → begins_with keyword.CONCURRENTLY ts ≡ false → begins_with keyword.CONCURRENTLY (take n ts) ≡ false
take_none zero ts h = refl
take_none (suc n) [] h = refl
take_none (suc n) (t ∷ ts) h = h

bare_none : (ts : List Terminal) → begins_with keyword.CONCURRENTLY ts ≡ false → begins_with keyword.CONCURRENTLY (without_semicolon ts) ≡ false
bare_none ts h = by (is_semicolon (last_of ts))
  where
    by : (b : Bool) → begins_with keyword.CONCURRENTLY (cond b (take (length ts - 1) ts) ts) ≡ false
    by true = take_none (length ts - 1) ts h
    by false = h

moved_none : (f : ℕ → ℕ) (ts : List Terminal) → begins_with keyword.CONCURRENTLY ts ≡ false → begins_with keyword.CONCURRENTLY (map (renumber f) ts) ≡ false
moved_none f [] h = refl
moved_none f (t ∷ ts) h = keyword_sees (numbers f) keyword.CONCURRENTLY t ∙ h

key_ends_none : (w : Keyword) (n : ℕ) → is_semicolon (key w n) ≡ false
unfolding is_semicolon
key_ends_none w n = refl

pub key_name : (w : Keyword) (n : ℕ) → is_name (key w n) ≡ true
unfolding is_name
key_name w n = refl

pub number_kept : (n m : ℕ) → moved_number (n + 1) m n ≡ n
number_kept n m = grind (arith, nat_tests)

pub last_moved : (f : ℕ → ℕ) (tail : List Terminal) (m l : ℕ) → last_with (map (renumber f) tail) m l ≡ last_with tail m l
last_moved f [] m l = refl
last_moved f (t ∷ ts) m l = refl

form_takes : (n : ℕ) (st : Stmt) (us : List Terminal) (first : Terminal) (front : List Terminal) (w : Keyword) (tail : List Terminal) → us ≡ (first ∷ front) ++ key w n ∷ tail →
    begins_with keyword.CONCURRENTLY tail ≡ false → ((f : ℕ → ℕ) (m : ℕ) → FormTakesConcurrently (map (renumber f) (first ∷ front)) (key w n) m) → statement us ≡ Some st → Takes n (concurrent_stmt n st) us
form_takes n st us first front w tail parts none marks here = record {
  first = first;
  front = front;
  word = key w n;
  tail = tail;
  parts = parts;
  number = refl;
  name = key_name w n;
  quoted = λ e. absurd (false≢true e);
  reads = λ above.
      let f : ℕ → ℕ = room_after n in
      let R : Terminal → Terminal = renumber f in
      let F : List Terminal = map R (first ∷ front) in
      let T : List Terminal = map R tail in
      let kept : R (key w n) ≡ key w n = ap (λ (x : ℕ). key w x) (number_kept n (n + 3)) in
      let list : map R ((first ∷ front) ++ key w n ∷ tail) ≡ F ++ key w n ∷ T = map-append R (first ∷ front) (key w n ∷ tail) ∙ ap (λ (x : Terminal). F ++ x ∷ T) kept in
      let old : statement (F ++ key w n ∷ T) ≡ Some (stmt_moved f st) =
      ap statement (sym list) ∙ statement_renumbers f first (front ++ key w n ∷ tail) ∙ ap (λ (x : List Terminal). option_map (stmt_moved f) (statement x)) (sym parts) ∙ ap (λ (x : Option Stmt). option_map (stmt_moved f) x) here in
      let read = parts_of (F ++ key w n ∷ T) (stmt_moved f st) old in
      let bare_is = bare_one F (key w n) T (key_ends_none w n) in
      let form : form_of (F ++ key w n ∷ key keyword.CONCURRENTLY (n + 2) ∷ without_semicolon T) ≡ Some (st.kind, concurrent_body (n + 2) (stmt_moved f st).body) =
      marks f (n + 2) (without_semicolon T) (bare_none T (moved_none f tail none))
      ∙ ap (λ (x : List Terminal). option_map (concurrent_form (n + 2)) (form_of x)) (sym bare_is)
      ∙ ap (λ (x : Option (StmtKind × Body)). option_map (concurrent_form (n + 2)) x) read.form in
      let end = last_moved f tail (n + 2) (f st.last) ∙ last_is n st.last us (first ∷ front) (key w n) tail parts (parts_of us st here).last refl above in
      word_reads (R first) (map R front) (key w n) (n + 2) T (stmt_moved f st) (concurrent_body (n + 2) (stmt_moved f st).body) (key_ends_none w n) old form
      ∙ ap (λ (x : ℕ). Some (record (stmt_moved f st) { last = x; body = concurrent_body (n + 2) (stmt_moved f st).body })) end;
}

-- what follows the word, with what ends the statement after it
none_ended : (rest end : List Terminal) → begins_with keyword.CONCURRENTLY rest ≡ false → begins_with keyword.CONCURRENTLY end ≡ false → begins_with keyword.CONCURRENTLY (rest ++ end) ≡ false
none_ended [] end h g = g
none_ended (t ∷ rest) end h g = h

-- ---- CREATE INDEX and DROP INDEX

index_takes : (n : ℕ) (st : Stmt) (us ws end : List Terminal) → begins_with keyword.CONCURRENTLY end ≡ false → us ≡ ws ++ end → statement us ≡ Some st → IndexShape n ws → Takes n (concurrent_stmt n st) us
index_takes n st us ws end quiet e here (plain c rest none p) =
    form_takes n st us (key keyword.CREATE c) [] keyword.INDEX (rest ++ end) (e ∙ ap (λ (x : List Terminal). x ++ end) p) (none_ended rest end none quiet)
    (λ g m more h. create_index_concurrently (g c) n m more h) here
index_takes n st us ws end quiet e here (unique c u rest none p) =
    form_takes n st us (key keyword.CREATE c) (key keyword.UNIQUE u ∷ []) keyword.INDEX (rest ++ end) (e ∙ ap (λ (x : List Terminal). x ++ end) p) (none_ended rest end none quiet)
    (λ g m more h. create_unique_index_concurrently (g c) (g u) n m more h) here

drop_takes : (n : ℕ) (st : Stmt) (us ws end : List Terminal) → begins_with keyword.CONCURRENTLY end ≡ false → us ≡ ws ++ end → statement us ≡ Some st → DropShape n ws → Takes n (concurrent_stmt n st) us
drop_takes n st us ws end quiet e here d =
    form_takes n st us (key keyword.DROP d.first) [] keyword.INDEX (d.rest ++ end) (e ∙ ap (λ (x : List Terminal). x ++ end) d.parts) (none_ended d.rest end d.none quiet)
    (λ g m more h. drop_index_concurrently (g d.first) n m more h) here

-- ---- REINDEX

options_begin : (f : ℕ → ℕ) (options : List Terminal) → begins_list options ≡ true → begins_list (map (renumber f) options) ≡ true
options_begin f [] h = h
options_begin f (t ∷ ts) h = h

options_close : (f : ℕ → ℕ) (options : List Terminal) (y : Terminal) (rest : List Terminal) (z : Terminal) (more : List Terminal) → begins_list options ≡ true → closing 0 0 (options ++ y ∷ rest) ≡ length options →
    closing 0 0 (map (renumber f) options ++ z ∷ more) ≡ length (map (renumber f) options)
options_close f [] y rest z more h e = absurd (false≢true h)
options_close f (t ∷ ts) y rest z more h e =
    let size = length-map ts (renumber f) in
    let moved : closing 0 0 (renumber f t ∷ (map (renumber f) ts ++ renumber f y ∷ map (renumber f) rest)) ≡ suc (length (map (renumber f) ts)) =
    ap (λ (x : List Terminal). closing 0 0 (renumber f t ∷ x)) (sym (map-append (renumber f) ts (y ∷ rest))) ∙ closing_renumbers (numbers f) 0 0 (t ∷ (ts ++ y ∷ rest)) ∙ e ∙ ap suc (sym size) in
    closing_same 0 0 (renumber f t) (map (renumber f) ts) (renumber f y) z (map (renumber f) rest) more moved

reindex_takes : (found : ReindexTarget) (n : ℕ) (st : Stmt) (us ws end : List Terminal) → begins_with keyword.CONCURRENTLY end ≡ false → us ≡ ws ++ end → statement us ≡ Some st → ReindexShape found n ws → Takes n (concurrent_stmt n st) us
reindex_takes found n st us ws end quiet e here (bare c target rest is none p) =
    form_takes n st us (key keyword.REINDEX c) [] target (rest ++ end) (e ∙ ap (λ (x : List Terminal). x ++ end) p) (none_ended rest end none quiet)
    (λ g m more h. reindex_concurrently (g c) m (key target n) more refl h) here
reindex_takes found n st us ws end quiet e here (listed c options target rest is list closes none p) =
    form_takes n st us (key keyword.REINDEX c) options target (rest ++ end)
    (e ∙ ap (λ (x : List Terminal). x ++ end) p ∙ ap (λ (x : List Terminal). key keyword.REINDEX c ∷ x) (append_assoc options (key target n ∷ rest) end)) (none_ended rest end none quiet)
    (λ g m more h. reindex_options_concurrently (g c) m (map (renumber g) options) (key target n) more (options_begin g options list) (options_close g options (key target n) rest (key target n) more list closes) h) here

-- ---- the law

pub concurrently_reads : ConcurrentlyReads
concurrently_reads tree before st after n is parts takes short = inserted tree before st after n (concurrent_stmt n st) is parts (λ us e. by takes us e (parts_of us st e).form) short
  where
    by : TakesConcurrently n st → (us : List Terminal) → statement us ≡ Some st → form_of (without_semicolon us) ≡ Some (st.kind, st.body) → Takes n (concurrent_stmt n st) us
    by (index u g name path has) us here e =
        let whole = ended us in
        index_takes n st us (without_semicolon us) whole.end whole.quiet whole.parts here
        (create_index_shows (without_semicolon us) st.kind n u g name path (e ∙ ap (λ (x : Body). Some (st.kind, x)) has))
    by (dropped g paths kind has) us here e =
        let whole = ended us in
        drop_takes n st us (without_semicolon us) whole.end whole.quiet whole.parts here (drop_index_shows (without_semicolon us) n g paths (e ∙ (λ i. Some (kind i, has i))))
    by (rebuilt found valued path has) us here e =
        let whole = ended us in
        reindex_takes found n st us (without_semicolon us) whole.end whole.quiet whole.parts here
        (reindex_shows (without_semicolon us) st.kind found n valued path (e ∙ ap (λ (x : Body). Some (st.kind, x)) has))
