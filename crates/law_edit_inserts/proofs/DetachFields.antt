-- DETACH PARTITION with the word CONCURRENTLY: the mark is the action's word and its last token, and nothing else changes.
use Rattle.std.proofs.Common.{◌≡◌, ℕ, ◌+◌, ◌<◌, ◌≤◌, true, List, [], ◌∷◌, ◌++◌, map, length, append_assoc, sym, refl, ap, ◌∙◌, subst, arith, Option, Some, None, Ok}
use Rattle.std.proofs.lemmas.Bool.Decides.{nat_tests}
use Rattle.std.proofs.lemmas.List.{map-append, append_cancel_left}
use Rattle.std.specs.Option.{option_map}
use Rattle.law_edit_cuts.specs.sql_keyword.declared.words.TheConstants.Keyword as keyword
use Rattle.law_edit_cuts.specs.sql_token.declared.token.Span.{Span}
use Rattle.law_edit_cuts.specs.sql_token.declared.terminal.Terminal.{Terminal}
use Rattle.law_edit_cuts.specs.sql_token.Depth.{opened, closed}
use Rattle.law_edit_cuts.specs.sql_token.Terminal.{is_name, is_closer, is_opener, is_semicolon}
use Rattle.law_edit_cuts.specs.sql_tree.declared.kinds.ActionKind.TheVariants as a
use Rattle.law_edit_cuts.specs.sql_tree.declared.kinds.StmtKind.{StmtKind}
use Rattle.law_edit_cuts.specs.sql_tree.declared.kinds.StmtKind.TheVariants as stmt
use Rattle.law_edit_cuts.specs.sql_tree.declared.nodes.Action.{Action}
use Rattle.law_edit_cuts.specs.sql_tree.declared.nodes.Body.{Body}
use Rattle.law_edit_cuts.specs.sql_tree.declared.nodes.Body.TheVariants as body
use Rattle.law_edit_cuts.specs.sql_tree.declared.nodes.Stmt.{Stmt}
use Rattle.law_edit_cuts.specs.sql_tree.Action.{action}
use Rattle.law_edit_cuts.specs.sql_tree.Statement.{form_of, statement, without_semicolon}
use Rattle.law_edit_cuts.specs.law_renumber.Moved.{span_moved, action_moved, body_moved, stmt_moved}
use Rattle.law_edit_cuts.specs.law_renumber.Renumber.{renumber}
use Rattle.law_edit_cuts.proofs.of_law_renumber.Statements.{statement_renumbers}
use Rattle.law_edit_tokens.specs.Beside.{begins_punct_or_ends}
use Rattle.law_edit_tokens.specs.Terminals.{moved_number}
use Rattle.law_edit_inserts.specs.Concurrently.{key, concurrent_action}
use Rattle.law_edit_inserts.specs.Built.{room_after, end_after, detached_stmt, DetachTakesConcurrently, DetachReads, DetachBegins, DetachHasPath}
use Rattle.law_edit_cuts.specs.sql_token.Depth.{statements}
use Rattle.law_edit_cuts.specs.sql_token.Terminal.{terminals, terminals_from}
use Rattle.law_edit_cuts.specs.sql_token.Token.{Text}
use Rattle.law_edit_cuts.specs.Exchanges.{joined}
use Rattle.law_edit_inserts.proofs.Statements.{stmt_at_place, of_read, of_terminals, joined_at}
use Rattle.law_edit_inserts.proofs.Tokens.{Under, under_parts, terms_under, term_at}
use Rattle.law_edit_inserts.proofs.ActionPlaces.{action_shows}
use Rattle.law_edit_inserts.proofs.Detaches.{detach_concurrently, detach_shows, name_last}
use Rattle.law_edit_inserts.proofs.Fields.{ended, last_moved, number_kept}
use Rattle.law_edit_inserts.proofs.Inserted.{Takes, inserted, last_is, uncut_name, name_ends_none}
use Rattle.law_edit_inserts.proofs.TakenConcurrently.{bare_one, last_with, parts_of, word_reads}

-- ---- lists under other numbers

-- a moved list in parts: it is a list in parts that was moved
record Split (f : ℕ → ℕ) (us front : List Terminal) (r : Terminal) (tail : List Terminal) : Type 0 where
  pub before : List Terminal
  pub t : Terminal
  pub after : List Terminal
  pub parts : us ≡ before ++ t ∷ after
  pub before_is : map (renumber f) before ≡ front
  pub here_is : renumber f t ≡ r
  pub after_is : map (renumber f) after ≡ tail

first : {x y : Terminal} {us vs : List Terminal} → x ∷ us ≡ y ∷ vs → x ≡ y
first e = cc

rest : {x y : Terminal} {us vs : List Terminal} → x ∷ us ≡ y ∷ vs → us ≡ vs
rest e = cc

no_list : (front : List Terminal) (r : Terminal) (tail : List Terminal) → [] ≡ front ++ r ∷ tail → ⊥
no_list [] r tail e = cc
no_list (x ∷ front) r tail e = cc

split_moved : (f : ℕ → ℕ) (us front : List Terminal) (r : Terminal) (tail : List Terminal) → map (renumber f) us ≡ front ++ r ∷ tail → Split f us front r tail
split_moved f [] front r tail e = absurd (no_list front r tail e)
split_moved f (u ∷ us) [] r tail e = record { before = []; t = u; after = us; parts = refl; before_is = refl; here_is = first e; after_is = rest e }
split_moved f (u ∷ us) (x ∷ front) r tail e =
    let s = split_moved f us front r tail (rest e) in
    let here = first e in let before = s.before_is in
    record {
      before = u ∷ s.before;
      t = s.t;
      after = s.after;
      parts = ap (λ (l : List Terminal). u ∷ l) s.parts;
      before_is = λ i. here i ∷ before i;
      here_is = s.here_is;
      after_is = s.after_is;
    }

-- ---- the action under other numbers

number_back : (n m x : ℕ) → n < m → moved_number (n + 1) m x ≡ n → x ≡ n
number_back n m x h e = grind (arith, nat_tests)

end_moved : (f : ℕ → ℕ) (n : ℕ) (path : Option Span) → option_map (λ x. x.last) path ≡ Some n → option_map (λ x. x.last) (option_map (span_moved f) path) ≡ Some (f n)
end_moved f n None e = cc
end_moved f n (Some p) e = ap (λ (x : Option ℕ). option_map f x) e

end_is : (n first e : ℕ) (path : Option Span) → option_map (λ x. x.last) path ≡ Some n → path ≡ Some (record { first = first; last = e }) → e ≡ n
end_is n first e path h p = inside (ap (λ (x : Option Span). option_map (λ y. y.last) x) (sym p) ∙ h)
  where
    inside : {x y : ℕ} → Some x ≡ Some y → x ≡ y
    inside e = cc

moved_body : (f : ℕ → ℕ) (path : Option Span) (earlier : List Action) (b : Action) (later : List Action) →
    body.Alter (option_map (span_moved f) path) (map (action_moved f) (earlier ++ b ∷ later))
    ≡ body.Alter (option_map (span_moved f) path) (map (action_moved f) earlier ++ action_moved f b ∷ map (action_moved f) later)
moved_body f path earlier b later = ap (λ (x : List Action). body.Alter (option_map (span_moved f) path) x) (map-append (action_moved f) earlier (b ∷ later))

-- ---- the statement

-- a front with a terminal
record Led (front : List Terminal) : Type 0 where
  pub t : Terminal
  pub ts : List Terminal
  pub parts : front ≡ t ∷ ts

led_by : (earlier : List Terminal) (t : Terminal) (ts front : List Terminal) → front ≡ earlier ++ t ∷ ts → Led front
led_by [] t ts front e = record { t = t; ts = ts; parts = e }
led_by (x ∷ earlier) t ts front e = record { t = x; ts = earlier ++ t ∷ ts; parts = e }

marks_follow : (tail end : List Terminal) → begins_punct_or_ends tail ≡ true → begins_punct_or_ends end ≡ true → begins_punct_or_ends (tail ++ end) ≡ true
marks_follow [] end h g = g
marks_follow (t ∷ tail) end h g = h

marks_moved : (f : ℕ → ℕ) (ts : List Terminal) → begins_punct_or_ends (map (renumber f) ts) ≡ true → begins_punct_or_ends ts ≡ true
marks_moved f [] h = refl
marks_moved f (t ∷ ts) h = h

-- What the moved statement is read of, and what is read with the word.
record Detached (n start : ℕ) (vs : List Terminal) (old now : Stmt) : Type 0 where
  pub front : List Terminal
  pub led : Led front
  pub r : Terminal
  pub tail : List Terminal
  pub parts : vs ≡ front ++ r ∷ tail
  pub number : r.number ≡ n
  pub name : is_name r ≡ true
  pub mark : begins_punct_or_ends tail ≡ true
  -- the first terminal of the action
  pub earlier : List Terminal
  pub begin : Terminal
  pub more : List Terminal
  pub there : front ≡ earlier ++ begin ∷ more
  pub begins : begin.number ≡ start
  pub reads : statement (front ++ r ∷ key keyword.CONCURRENTLY (n + 2) ∷ tail) ≡ Some (record now { last = last_with tail (n + 2) old.last })

low_prefix : (d x : ℕ) (front : List Terminal) → closed front ≡ 0 → closed (key keyword.DETACH d ∷ key keyword.PARTITION x ∷ front) ≤ opened (key keyword.DETACH d ∷ key keyword.PARTITION x ∷ front)
unfolding is_closer is_opener
low_prefix d x front h = omega (arith, h)

detached : (n : ℕ) (vs : List Terminal) (old : Stmt) (path : Option Span) (earlier : List Action) (b : Action) (later : List Action) → statement vs ≡ Some old → old.kind ≡ stmt.AlterTable →
    old.body ≡ body.Alter path (earlier ++ b ∷ later) → b.kind ≡ a.DetachPartition → b.word ≡ None → option_map (λ x. x.last) b.path ≡ Some n →
    Detached n b.first vs old (record old { body = body.Alter path (earlier ++ concurrent_action (n + 2) b ∷ later) })
detached n vs old path earlier b later here kind has detaches none ends =
    let read = parts_of vs old here in
    let ws : List Terminal = without_semicolon vs in
    let form : form_of ws ≡ Some (stmt.AlterTable, body.Alter path (earlier ++ b ∷ later)) = read.form ∙ (λ i. Some (kind i, has i)) in
    let act = action_shows ws path earlier b later form in
    let shape = detach_shows act.here b act.is detaches none in
    let last = name_last shape.t shape.path shape.e shape.name shape.ends in
    let p : List Terminal = key keyword.DETACH shape.detach ∷ key keyword.PARTITION shape.partition ∷ last.front in
    let c : Terminal = key keyword.CONCURRENTLY (n + 2) in
    let here_is : act.here ≡ p ++ ((last.r ∷ []) ++ []) = shape.parts ∙ ap (λ (l : List Terminal). key keyword.DETACH shape.detach ∷ key keyword.PARTITION shape.partition ∷ l) last.parts in
    let uncut = uncut_name last.r (n + 2) last.name in
    let long : 2 ≤ length p = omega arith in
    let change = act.changes p last.r [] [] here_is uncut.0 long (low_prefix shape.detach shape.partition last.front last.flat) in
    let new_is : p ++ ((last.r ∷ c ∷ []) ++ []) ≡ key keyword.DETACH shape.detach ∷ key keyword.PARTITION shape.partition ∷ shape.t ∷ (shape.path ++ c ∷ []) =
    ap (λ (l : List Terminal). key keyword.DETACH shape.detach ∷ key keyword.PARTITION shape.partition ∷ l)
    (sym (append_assoc last.front (last.r ∷ []) (c ∷ [])) ∙ ap (λ (l : List Terminal). l ++ c ∷ []) (sym last.parts)) in
    let acted : action stmt.AlterTable (p ++ ((last.r ∷ c ∷ []) ++ [])) ≡ Some (concurrent_action (n + 2) b) =
    ap (action stmt.AlterTable) new_is
    ∙ detach_concurrently shape.detach shape.partition (n + 2) shape.e shape.t shape.path shape.name shape.ends
    ∙ ap (λ (l : List Terminal). option_map (concurrent_action (n + 2)) (action stmt.AlterTable l)) (sym shape.parts)
    ∙ ap (λ (x : Option Action). option_map (concurrent_action (n + 2)) x) act.is in
    let formed = change.becomes last.r (c ∷ []) (concurrent_action (n + 2) b) uncut.1 acted in
    let whole = ended vs in
    let tail : List Terminal = change.tail ++ whole.end in
    let vs_is : vs ≡ change.front ++ last.r ∷ tail =
    whole.parts ∙ ap (λ (l : List Terminal). l ++ whole.end) change.parts ∙ append_assoc change.front (last.r ∷ change.tail) whole.end in
    let led = led_by change.earlier (key keyword.DETACH shape.detach) (key keyword.PARTITION shape.partition ∷ last.front) change.front change.there in
    let bare_is : change.front ++ last.r ∷ without_semicolon tail ≡ change.front ++ last.r ∷ change.tail =
    sym (bare_one change.front last.r tail (name_ends_none last.r last.name)) ∙ ap without_semicolon (sym vs_is) ∙ change.parts in
    let left : without_semicolon tail ≡ change.tail = rest (append_cancel_left change.front (last.r ∷ without_semicolon tail) (last.r ∷ change.tail) bare_is) in
    let lead : change.front ≡ led.t ∷ led.ts = led.parts in
    let old_is : statement ((led.t ∷ led.ts) ++ last.r ∷ tail) ≡ Some old = ap (λ (l : List Terminal). statement (l ++ last.r ∷ tail)) (sym lead) ∙ ap statement (sym vs_is) ∙ here in
    let form_is : form_of ((led.t ∷ led.ts) ++ last.r ∷ c ∷ without_semicolon tail) ≡ Some (old.kind, body.Alter path (earlier ++ concurrent_action (n + 2) b ∷ later)) =
    (λ i. form_of (sym lead i ++ last.r ∷ c ∷ left i)) ∙ formed ∙ (λ i. Some (sym kind i, body.Alter path (earlier ++ concurrent_action (n + 2) b ∷ later))) in
    record {
      front = change.front;
      led = led;
      r = last.r;
      tail = tail;
      parts = vs_is;
      number = last.number ∙ end_is n shape.t.number shape.e b.path ends shape.path_is;
      name = last.name;
      mark = marks_follow change.tail whole.end (change.ends refl) whole.mark;
      earlier = change.earlier;
      begin = key keyword.DETACH shape.detach;
      more = key keyword.PARTITION shape.partition ∷ last.front;
      there = change.there;
      begins = sym shape.begins;
      reads = ap (λ (l : List Terminal). statement (l ++ last.r ∷ c ∷ tail)) lead
          ∙ word_reads led.t led.ts last.r (n + 2) tail old (body.Alter path (earlier ++ concurrent_action (n + 2) b ∷ later)) (name_ends_none last.r last.name) old_is form_is;
    }

-- ---- the law

empty_form : form_of (without_semicolon []) ≡ Some (stmt.Empty, body.Kept)
unfolding form_of is_semicolon
empty_form = refl

no_table : (st : Stmt) → statement [] ≡ Some st → st.kind ≡ stmt.AlterTable → ⊥
no_table st e h = none (sym h ∙ kind_is)
  where
    inside : {x y : StmtKind × Body} → Some x ≡ Some y → x ≡ y
    inside e = cc

    kind_is : st.kind ≡ stmt.Empty
    kind_is = ap (λ (x : StmtKind × Body). x.0) (inside (sym (parts_of [] st e).form ∙ empty_form))

    none : stmt.AlterTable ≡ stmt.Empty → ⊥
    none e = cc

-- all but the first terminal of what comes before the word, under old numbers
led_back : (f : ℕ → ℕ) (before front : List Terminal) → map (renumber f) before ≡ front → Led front → Led before
led_back f [] front e led = absurd (none (e ∙ led.parts))
  where
    none : [] ≡ led.t ∷ led.ts → ⊥
    none e = cc
led_back f (t ∷ ts) front e led = record { t = t; ts = ts; parts = refl }

detach_takes : (n : ℕ) (st : Stmt) (path : Option Span) (earlier : List Action) (b : Action) (later : List Action) (us : List Terminal) → DetachTakesConcurrently n st path earlier b later → statement us ≡ Some st →
    Takes n (detached_stmt n st path earlier b later) us
detach_takes n st path earlier b later [] takes here = absurd (no_table st here takes.kind)
detach_takes n st path earlier b later (u ∷ us) takes here =
    let f : ℕ → ℕ = room_after n in
    let R : Terminal → Terminal = renumber f in
    let old : Stmt = stmt_moved f st in
    let kept : f n ≡ n = number_kept n (n + 3) in
    let moved : statement (map R (u ∷ us)) ≡ Some old = statement_renumbers f u us ∙ ap (λ (x : Option Stmt). option_map (stmt_moved f) x) here in
    let has : old.body ≡ body.Alter (option_map (span_moved f) path) (map (action_moved f) earlier ++ action_moved f b ∷ map (action_moved f) later) =
    body_under f st.body path (earlier ++ b ∷ later) takes.has ∙ moved_body f path earlier b later in
    let ends : option_map (λ x. x.last) (action_moved f b).path ≡ Some n = end_moved f n b.path takes.ends ∙ ap (λ (x : ℕ). Some x) kept in
    let none : (action_moved f b).word ≡ None = ap (λ (x : Option ℕ). option_map f x) takes.none in
    let d = detached n (map R (u ∷ us)) old (option_map (span_moved f) path) (map (action_moved f) earlier) (action_moved f b) (map (action_moved f) later) moved takes.kind has takes.detaches none ends in
    let s = split_moved f (u ∷ us) d.front d.r d.tail d.parts in
    let number : s.t.number ≡ n = number_back n (n + 3) s.t.number (omega arith) (ap (λ (x : Terminal). x.number) s.here_is ∙ d.number) in
    let same : s.t ≡ d.r = ap (λ (x : ℕ). record s.t { number = x }) (number ∙ sym kept ∙ ap f (sym number)) ∙ s.here_is in
    let led = led_back f s.before d.front s.before_is d.led in
    let lead = led.parts in
    let before_is = s.before_is in
    let after_is = s.after_is in
    let parts : u ∷ us ≡ (led.t ∷ led.ts) ++ s.t ∷ s.after = s.parts ∙ ap (λ (l : List Terminal). l ++ s.t ∷ s.after) lead in
    record {
      first = led.t;
      front = led.ts;
      word = s.t;
      tail = s.after;
      parts = parts;
      number = number;
      name = ap is_name same ∙ d.name;
      quoted = λ q. marks_moved f s.after (ap begins_punct_or_ends after_is ∙ d.mark);
      reads = λ above.
          let end : last_with d.tail (n + 2) (f st.last) ≡ end_after n st.last =
          ap (λ (l : List Terminal). last_with l (n + 2) (f st.last)) (sym after_is) ∙ last_moved f s.after (n + 2) (f st.last)
          ∙ last_is n st.last (u ∷ us) (led.t ∷ led.ts) s.t s.after parts (parts_of (u ∷ us) st here).last number above in
          ap (λ (l : List Terminal). statement (map R l ++ s.t ∷ key keyword.CONCURRENTLY (n + 2) ∷ map R s.after)) (sym lead)
          ∙ (λ i. statement (before_is i ++ same i ∷ key keyword.CONCURRENTLY (n + 2) ∷ after_is i))
          ∙ d.reads
          ∙ ap (λ (x : ℕ). Some (record (detached_stmt n st path earlier b later) { last = x })) end;
    }
  where
    body_under : (f : ℕ → ℕ) (x : Body) (path : Option Span) (actions : List Action) → x ≡ body.Alter path actions → body_moved f x ≡ body.Alter (option_map (span_moved f) path) (map (action_moved f) actions)
    body_under f x path actions e = ap (body_moved f) e

pub detach_reads : DetachReads
detach_reads tree before st after n path earlier b later is parts takes short =
    inserted tree before st after n (detached_stmt n st path earlier b later) is parts (λ us e. detach_takes n st path earlier b later us takes e) short

-- ---- where the action begins

before_run : (hi : ℕ) (q : List Terminal) (t : Terminal) (more : List Terminal) → Under hi (q ++ t ∷ more) → t.number < hi
unfolding Under
before_run hi [] t more h = h.0
before_run hi (x ∷ q) t more h = before_run hi q t more h.1

pub detach_begins : DetachBegins
detach_begins tree before st after n path earlier b later is parts takes =
    let t : Text = tree.text in
    let ts : List Terminal = terminals t tree.toks in
    let place = stmt_at_place (statements ts) before st after (of_read t tree.toks ts tree.stmts refl is.read ∙ ap (λ (x : List Stmt). Ok x) parts) in
    let d = detached n place.here st path earlier b later place.here_is takes.kind takes.has takes.detaches takes.none takes.ends in
    let cut : statements ts ≡ place.earlier ++ (d.front ++ d.r ∷ d.tail) ∷ place.later = place.parts ∙ ap (λ (x : List Terminal). place.earlier ++ x ∷ place.later) d.parts in
    let at = term_at t 0 tree.toks (joined place.earlier ++ d.front) d.r (d.tail ++ joined place.later)
    (of_terminals t tree.toks _ (joined_at ts place.earlier d.front d.r d.tail place.later cut)) in
    let len : 0 + length at.front ≡ n = omega (arith, ap (λ (x : Terminal). x.number) at.here, d.number) in
    let under : Under n (joined place.earlier ++ d.front) = subst (λ (x : List Terminal). Under n x) (sym at.earlier) (subst (λ (x : ℕ). Under x (terminals_from t 0 at.front)) len (terms_under t 0 at.front)) in
    let front : Under n (d.earlier ++ d.begin ∷ d.more) = subst (λ (x : List Terminal). Under n x) d.there (under_parts n (joined place.earlier) d.front under).1 in
    subst (λ (x : ℕ). x < n) d.begins (before_run n d.earlier d.begin d.more front)

pub detach_has_path : DetachHasPath
detach_has_path tree before st after path earlier b later is parts kind has detaches none =
    let t : Text = tree.text in
    let ts : List Terminal = terminals t tree.toks in
    let place = stmt_at_place (statements ts) before st after (of_read t tree.toks ts tree.stmts refl is.read ∙ ap (λ (x : List Stmt). Ok x) parts) in
    let read = parts_of place.here st place.here_is in
    let act = action_shows (without_semicolon place.here) path earlier b later (read.form ∙ (λ i. Some (kind i, has i))) in
    let shape = detach_shows act.here b act.is detaches none in
    (shape.e, (ap (λ (x : Option Span). option_map (λ y. y.last) x) shape.path_is, shape.last))
