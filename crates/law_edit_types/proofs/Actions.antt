-- One action of an ALTER TABLE, of which the type becomes a word: the statement then.
use Rattle.std.proofs.Common.{◌≡◌, ◌≤◌, ◌<◌, ◌⊎◌, inl, inr, ℕ, ◌-◌, true, false, cond, List, [], ◌∷◌, ◌++◌, map, length, get_or, take, append_assoc, length-append, sym, refl, ap, ◌∙◌, arith, Option, Some, None}
use Rattle.std.proofs.lemmas.List.{map-append, append_cancel_left}
use Rattle.std.specs.List.{list_all}
use Rattle.std.specs.Option.{option_map, option_and_then}
use Rattle.law_edit_inserts.specs.sql_keyword.Same.{same_keyword}
use Rattle.law_edit_inserts.specs.sql_token.declared.token.Span.{Span}
use Rattle.law_edit_inserts.specs.sql_token.declared.token.TokKind.TheVariants.{Word}
use Rattle.law_edit_inserts.specs.sql_token.declared.terminal.Symbol.{Symbol}
use Rattle.law_edit_inserts.specs.sql_token.declared.terminal.Terminal.{Terminal}
use Rattle.law_edit_inserts.specs.sql_token.Token.{Text}
use Rattle.law_edit_inserts.specs.sql_token.Terminal.{symbol_of, is_keyword, is_opener, is_closer, is_semicolon, is_unicode_name}
use Rattle.law_edit_inserts.specs.sql_token.Depth.{span_of, nothing, opened, closed}
use Rattle.law_edit_inserts.specs.sql_token.Sound.{is_sound, begins_atomic}
use Rattle.law_edit_inserts.specs.sql_tree.declared.kinds.StmtKind.{StmtKind}
use Rattle.law_edit_inserts.specs.sql_tree.declared.kinds.StmtKind.TheVariants as stmt
use Rattle.law_edit_inserts.specs.sql_tree.declared.nodes.Action.{Action}
use Rattle.law_edit_inserts.specs.sql_tree.declared.nodes.Body.{Body}
use Rattle.law_edit_inserts.specs.sql_tree.declared.nodes.Body.TheVariants as body
use Rattle.law_edit_inserts.specs.sql_tree.declared.nodes.ColType.{ColType}
use Rattle.law_edit_inserts.specs.sql_tree.declared.nodes.Stmt.{Stmt}
use Rattle.law_edit_inserts.specs.sql_tree.Action.{action}
use Rattle.law_edit_inserts.specs.sql_tree.Statement.{Tree, statement, form_of, without_semicolon, last_of, stmt_in}
use Rattle.law_edit_inserts.specs.law_renumber.Moved.{stmt_moved, action_moved, span_moved}
use Rattle.law_edit_inserts.specs.law_renumber.Renumber.{renumber}
use Rattle.law_edit_inserts.proofs.of_law_renumber.Statements.{statement_renumbers}
use Rattle.law_edit_inserts.specs.law_edit_tokens.Beside.{ends_with_name}
use Rattle.law_edit_inserts.proofs.of_law_edit_tokens.Beside.{name_or_dot}
use Rattle.law_edit_inserts.specs.law_edit_cuts.Runs.{begins_no_body, deepest}
use Rattle.law_edit_inserts.proofs.of_law_edit_cuts.Sound.{sound_is_closed, soundness_stays}
use Rattle.law_edit_inserts.proofs.ActionPlaces.{action_shows}
use Rattle.law_edit_inserts.proofs.Fields.{ended}
use Rattle.law_edit_inserts.proofs.TakenConcurrently.{bare_after, parts_of}
use Rattle.law_edit_types.proofs.BracketLists.{Levels, levels_of}
use Rattle.law_edit_types.specs.Runs.{fused, word_term, IsTypeSymbol, last_or, is_type_run}
use Rattle.law_edit_types.specs.Altered.{ActionNow}
use Rattle.law_edit_types.proofs.Counts.{opened_append, closed_append, Flat}
use Rattle.law_edit_types.proofs.Runs.{AreShown, Becomes, end_shown, of_type, word_run, ends_append, fused_first, fused_last}
use Rattle.law_edit_types.proofs.TypeParts.{Ends}
use Rattle.law_edit_types.proofs.TypePlaces.{last_or_is, last_number, Fuses}
use Rattle.law_edit_types.proofs.TypeRuns.{run_closed, run_uncut}
use Rattle.law_edit_types.proofs.TypeShapes.{IsOpen}

-- ---- the word

word_sound : (x : Symbol) (n : ℕ) → IsTypeSymbol x → is_sound (record { symbol = x; number = n } ∷ []) ≡ true
unfolding is_sound begins_atomic is_unicode_name is_opener is_closer is_keyword same_keyword
word_sound x n h = of_type (λ (x : Symbol). is_sound (record { symbol = x; number = n } ∷ []) ≡ true) refl refl x h

word_calm : (x : Symbol) (n : ℕ) → IsTypeSymbol x → list_all begins_no_body (record { symbol = x; number = n } ∷ []) ≡ true
unfolding is_keyword same_keyword
word_calm x n h = of_type (λ (x : Symbol). list_all begins_no_body (record { symbol = x; number = n } ∷ []) ≡ true) refl refl x h

word_shallow : (x : Symbol) (n : ℕ) → IsTypeSymbol x → deepest 0 (record { symbol = x; number = n } ∷ []) ≡ 0
unfolding is_opener is_closer
word_shallow x n h = of_type (λ (x : Symbol). deepest 0 (record { symbol = x; number = n } ∷ []) ≡ 0) refl refl x h

word_no_end : (x : Symbol) (n : ℕ) → IsTypeSymbol x → is_semicolon (record { symbol = x; number = n }) ≡ false
unfolding is_semicolon
word_no_end x n h = of_type (λ (x : Symbol). is_semicolon (record { symbol = x; number = n }) ≡ false) refl refl x h

-- ---- the statement with the word

-- what it is without its semicolon
bare_word : (front : List Terminal) (r : Terminal) (run tail end : List Terminal) (word : Terminal) → is_semicolon word ≡ false → without_semicolon (front ++ ((r ∷ run) ++ (tail ++ end))) ≡ front ++ ((r ∷ run) ++ tail) →
    without_semicolon (front ++ word ∷ (tail ++ end)) ≡ front ++ word ∷ tail
bare_word front r run tail end word none e = by (tail ++ end) refl
  where
    one_bare : without_semicolon (word ∷ []) ≡ word ∷ []
    one_bare = λ i. cond (none i) (take (1 - 1) (word ∷ [])) (word ∷ [])

    tail_none : (tail : List Terminal) → tail ++ end ≡ [] → tail ≡ []
    tail_none [] h = refl
    tail_none (x ∷ tail) h = cc

    by : (T : List Terminal) → tail ++ end ≡ T → without_semicolon (front ++ word ∷ (tail ++ end)) ≡ front ++ word ∷ tail
    by [] h =
        ap (λ (x : List Terminal). without_semicolon (front ++ word ∷ x)) h ∙ bare_after front word [] ∙ ap (λ (x : List Terminal). front ++ x) one_bare
        ∙ ap (λ (x : List Terminal). front ++ word ∷ x) (sym (tail_none tail h))
    by (y ∷ ys) h =
        let old : front ++ ((r ∷ run) ++ (tail ++ end)) ≡ (front ++ (r ∷ run)) ++ y ∷ ys =
        ap (λ (x : List Terminal). front ++ ((r ∷ run) ++ x)) h ∙ sym (append_assoc front (r ∷ run) (y ∷ ys)) in
        let bare : (front ++ (r ∷ run)) ++ without_semicolon (y ∷ ys) ≡ (front ++ (r ∷ run)) ++ tail =
        sym (ap without_semicolon old ∙ bare_after (front ++ (r ∷ run)) y ys) ∙ e ∙ sym (append_assoc front (r ∷ run) tail) in
        let same = append_cancel_left (front ++ (r ∷ run)) (without_semicolon (y ∷ ys)) tail bare in
        ap (λ (x : List Terminal). without_semicolon (front ++ word ∷ x)) h
        ∙ ap without_semicolon (sym (append_assoc front (word ∷ []) (y ∷ ys))) ∙ bare_after (front ++ word ∷ []) y ys
        ∙ ap (λ (x : List Terminal). (front ++ word ∷ []) ++ x) same ∙ append_assoc front (word ∷ []) tail

-- the statement that these terminals are
statement_by : (us : List Terminal) (f : StmtKind × Body) → is_sound us ≡ true → form_of (without_semicolon us) ≡ Some f → statement us ≡ Some (stmt_in (span_of us) f)
unfolding statement
statement_by us f h e = λ i. cond (h i) (option_and_then (λ f. Some (stmt_in (span_of us) f)) (e i)) None

-- A statement of which the form with the word is known is of that form, under its new numbers.
pub statement_reads : (f : ℕ → ℕ) (us : List Terminal) (st : Stmt) (first : Terminal) (front : List Terminal) (r : Terminal) (run tail end : List Terminal) (word : Terminal) (form : StmtKind × Body) →
    statement us ≡ Some st → us ≡ (first ∷ front) ++ ((r ∷ run) ++ (tail ++ end)) → without_semicolon us ≡ (first ∷ front) ++ ((r ∷ run) ++ tail) →
    is_type_run (r ∷ run) ≡ true → IsTypeSymbol word.symbol → Fuses f word r run →
    form_of ((first ∷ front) ++ word ∷ tail) ≡ Some form →
    statement (map (renumber f) (first ∷ front) ++ word ∷ map (renumber f) (tail ++ end)) ≡ Some (stmt_moved f (record st { kind = form.0; body = form.1 }))
statement_reads f us st first front r run tail end word form e parts bare closed symbol fuses is =
    let R : Terminal → Terminal = renumber f in
    let xs : List Terminal = (first ∷ front) ++ word ∷ (tail ++ end) in
    let read = parts_of us st e in
    let shallow = word_shallow word.symbol word.number symbol in
    let low : deepest 0 (word ∷ []) ≤ deepest 0 (r ∷ run) = omega (arith, shallow) in
    let sound : is_sound xs ≡ true =
    soundness_stays (first ∷ front) (r ∷ run) (tail ++ end) word [] (run_closed (r ∷ run) closed) (word_sound word.symbol word.number symbol) (word_calm word.symbol word.number symbol) low (ap is_sound (sym parts) ∙ read.sound) in
    let bare_now : without_semicolon xs ≡ (first ∷ front) ++ word ∷ tail = bare_word (first ∷ front) r run tail end word (word_no_end word.symbol word.number symbol) (ap without_semicolon (sym parts) ∙ bare) in
    let now = statement_by xs form sound (ap form_of bare_now ∙ is) in
    let starts : f (get_or xs 0 nothing).number ≡ f st.first = ap f (sym (read.first ∙ ap (λ (x : List Terminal). (get_or x 0 nothing).number) parts)) in
    let ends : f (last_of xs).number ≡ f st.last =
    last_number f (first ∷ front) r run (tail ++ end) word fuses.last ∙ ap f (sym (read.last ∙ ap (λ (x : List Terminal). (last_of x).number) parts)) in
    let fixed = fuses.fixed in
    let list : map R (first ∷ front) ++ word ∷ map R (tail ++ end) ≡ map R xs =
    ap (λ (x : ℕ). map R (first ∷ front) ++ record word { number = x } ∷ map R (tail ++ end)) (sym fixed) ∙ sym (map-append R (first ∷ front) (word ∷ (tail ++ end))) in
    ap statement list ∙ statement_renumbers f first (front ++ word ∷ (tail ++ end)) ∙ ap (λ (x : Option Stmt). option_map (stmt_moved f) x) now
    ∙ (λ i. Some (record (stmt_moved f (record st { kind = form.0; body = form.1 })) { first = starts i; last = ends i }))

-- ---- an action with the word

-- what an action is read of with the word, and what is known of it
pub record ActionReads (f : ℕ → ℕ) (Is : Action → Type 0) (us : List Terminal) : Type 0 where
  pub now : Action
  pub is : action stmt.AlterTable us ≡ Some now
  pub has : Is (action_moved f now)

-- The place of a type in an action of a tree: with a word for its run, the action is as `Is` says.
pub record TypePlace (tree : Tree) (here : List Terminal) (ty : ColType) (Is : (ℕ → ℕ) → ℕ → Action → Type 0) : Type 0 where
  pub first : Terminal
  pub front : List Terminal
  pub r : Terminal
  pub run : List Terminal
  pub groups : List Terminal
  pub rest : List Terminal
  pub parts : here ≡ (first ∷ front) ++ ((r ∷ run) ++ (groups ++ rest))
  pub long : 2 ≤ length (first ∷ front)
  pub flat : Flat (first ∷ front)
  pub named : ends_with_name (first ∷ front) ≡ true
  pub inner : ty.inner ≡ span_of (r ∷ run)
  pub fine : Ends r run groups ⊎ IsOpen ((r ∷ run) ++ groups)
  pub level : (opened ((r ∷ run) ++ groups) ≡ closed ((r ∷ run) ++ groups)) ⊎ (rest ≡ [])
  pub becomes : (w : Terminal) (f : ℕ → ℕ) → AreShown tree (first ∷ front) → IsTypeSymbol w.symbol → Ends r run groups → Fuses f w r run → ActionReads f (Is f w.number) ((first ∷ front) ++ w ∷ (groups ++ rest))

-- ---- the brackets of the type close

-- Where all brackets of a list close, a part that ends it does not stay open, if nothing with brackets comes before it there.
run_closes : (us : List Terminal) (earlier here end front run rest : List Terminal) → Levels us → us ≡ (earlier ++ here) ++ end → opened end ≡ 0 → closed end ≡ 0 → here ≡ front ++ (run ++ rest) → Flat front → rest ≡ [] →
    closed run < opened run → ⊥
run_closes us earlier here end front run rest all parts o c here_is flat none more =
    let low = all.low earlier (here ++ end) (parts ∙ append_assoc earlier here end) in
    omega (
      arith,
      all.total,
      low,
      o,
      c,
      more,
      flat.opens,
      flat.closes,
      ap opened parts,
      ap closed parts,
      opened_append (earlier ++ here) end,
      closed_append (earlier ++ here) end,
      opened_append earlier here,
      closed_append earlier here,
      ap opened here_is,
      ap closed here_is,
      opened_append front (run ++ rest),
      closed_append front (run ++ rest),
      opened_append run rest,
      closed_append run rest,
      ap opened none,
      ap closed none,
    )

-- So a type in a part that closes its brackets or ends the list closes its own.
pub ends_of : (us bare here end front : List Terminal) (r : Terminal) (run groups rest : List Terminal) → Levels us → us ≡ bare ++ end → opened end ≡ 0 → closed end ≡ 0 → here ≡ front ++ (((r ∷ run) ++ groups) ++ rest) → Flat front →
    (opened here ≡ closed here) ⊎ ((earlier : List Terminal) × (bare ≡ earlier ++ here)) → Ends r run groups ⊎ IsOpen ((r ∷ run) ++ groups) → (opened ((r ∷ run) ++ groups) ≡ closed ((r ∷ run) ++ groups)) ⊎ (rest ≡ []) → Ends r run groups
ends_of us bare here end front r run groups rest all parts o c here_is flat ends (inl e) level = e
ends_of us bare here end front r run groups rest all parts o c here_is flat ends (inr more) (inl same) = absurd (omega (arith, more, same))
ends_of us bare here end front r run groups rest all parts o c here_is flat (inl same) (inr more) (inr none) =
    let xs : List Terminal = (r ∷ run) ++ groups in
    absurd (omega (arith, same, more, flat.opens, flat.closes, ap opened here_is, ap closed here_is, opened_append front (xs ++ rest), closed_append front (xs ++ rest), opened_append xs rest, closed_append xs rest, ap opened none, ap closed none))
ends_of us bare here end front r run groups rest all parts o c here_is flat (inr x) (inr more) (inr none) =
    absurd (run_closes us x.0 here end front ((r ∷ run) ++ groups) rest all (parts ∙ ap (λ (y : List Terminal). y ++ end) x.1) o c here_is flat none more)

-- ---- the law

-- a list that ends with some
pub record Begun (xs : List Terminal) : Type 0 where
  pub first : Terminal
  pub front : List Terminal
  pub parts : xs ≡ first ∷ front

pub some_front : (xs earlier : List Terminal) (y : Terminal) (ys : List Terminal) → xs ≡ earlier ++ y ∷ ys → Begun xs
some_front [] [] y ys e = cc
some_front [] (x ∷ earlier) y ys e = cc
some_front (x ∷ xs) earlier y ys e = record { first = x; front = xs; parts = refl }

abbrev pub closed_of : List Terminal → ℕ
closed_of ts = closed ts

-- the statement with that action
action_now : (f : ℕ → ℕ) (Is : Action → Type 0) (st : Stmt) (path : Option Span) (earlier later : List Action) (now : Action) → st.kind ≡ stmt.AlterTable → Is (action_moved f now) →
    ActionNow f st path earlier Is later (stmt_moved f (record st { kind = stmt.AlterTable; body = body.Alter path (earlier ++ now ∷ later) }))
action_now f Is st path earlier later now kind has = record {
  action = action_moved f now;
  has = has;
  is = (let list = map-append (action_moved f) earlier (now ∷ later) in λ i. record (stmt_moved f st) { kind = sym kind i; body = body.Alter (option_map (span_moved f) path) (list i) });
}

pub action_becomes : (tree : Tree) (st : Stmt) (path : Option Span) (earlier : List Action) (b : Action) (later : List Action) (ty : ColType) (w : Text) (Is : (ℕ → ℕ) → ℕ → Action → Type 0) → st.kind ≡ stmt.AlterTable → st.body ≡ body.Alter path (earlier ++ b ∷ later) →
    IsTypeSymbol (symbol_of Word w) → ((here : List Terminal) → action stmt.AlterTable here ≡ Some b → TypePlace tree here ty Is) → (us : List Terminal) → statement us ≡ Some st →
    Becomes tree ty.inner.first ty.inner.last w (ActionNow (fused ty.inner.first ty.inner.last) st path earlier (Is (fused ty.inner.first ty.inner.last) ty.inner.first) later) us
action_becomes tree st path earlier b later ty w Is kind has symbol place us e =
    let n : ℕ = ty.inner.first in
    let m : ℕ = ty.inner.last in
    let word : Terminal = word_term w n in
    let f : ℕ → ℕ = fused n m in
    let end = ended us in
    let read = parts_of us st e in
    let shows = action_shows (without_semicolon us) path earlier b later (read.form ∙ (λ i. Some (kind i, has i))) in
    let at = place shows.here shows.is in
    let tail : List Terminal = at.groups ++ at.rest in
    let long = at.long in
    let size : 2 ≤ length shows.here = omega (arith, long, ap length at.parts, length-append (at.first ∷ at.front) ((at.r ∷ at.run) ++ tail)) in
    let here_is : shows.here ≡ (at.first ∷ at.front) ++ (((at.r ∷ at.run) ++ at.groups) ++ at.rest) = at.parts ∙ ap (λ (x : List Terminal). (at.first ∷ at.front) ++ x) (sym (append_assoc (at.r ∷ at.run) at.groups at.rest)) in
    let closes = ends_of us (without_semicolon us) shows.here end.end (at.first ∷ at.front) at.r at.run at.groups at.rest (levels_of us (sound_is_closed us read.sound)) end.parts end.opens end.closes here_is at.flat (shows.ends size) at.fine at.level in
    let low : closed_of (at.first ∷ at.front) ≤ opened (at.first ∷ at.front) = omega (arith, at.flat.opens, at.flat.closes) in
    let change = shows.changes (at.first ∷ at.front) at.r at.run tail at.parts (run_uncut (at.r ∷ at.run) closes.closed) long low in
    let some = some_front change.front change.earlier at.first at.front change.there in
    let bare : without_semicolon us ≡ (some.first ∷ some.front) ++ ((at.r ∷ at.run) ++ change.tail) = change.parts ∙ ap (λ (x : List Terminal). x ++ ((at.r ∷ at.run) ++ change.tail)) some.parts in
    let parts : us ≡ (some.first ∷ some.front) ++ ((at.r ∷ at.run) ++ (change.tail ++ end.end)) =
    end.parts ∙ ap (λ (x : List Terminal). x ++ end.end) bare ∙ append_assoc (some.first ∷ some.front) ((at.r ∷ at.run) ++ change.tail) end.end
    ∙ ap (λ (x : List Terminal). (some.first ∷ some.front) ++ x) (append_assoc (at.r ∷ at.run) change.tail end.end) in
    let begins : at.r.number ≡ n = sym (ap (λ (x : Span). x.first) at.inner) in
    let ends : (last_or at.r at.run).number ≡ m = ap (λ (x : Terminal). x.number) (sym (last_or_is at.r at.run)) ∙ sym (ap (λ (x : Span). x.last) at.inner) in
    record {
      first = some.first;
      front = some.front;
      r = at.r;
      run = at.run;
      tail = change.tail ++ end.end;
      parts = parts;
      begins = begins;
      ends = ends;
      closed = closes.closed;
      named = name_or_dot (some.first ∷ some.front) (ap ends_with_name (sym some.parts ∙ change.there) ∙ ends_append change.earlier at.first at.front ∙ at.named);
      reads = λ around.
          let order = around.order in
          let shown = end_shown tree (some.first ∷ some.front) change.earlier (at.first ∷ at.front) (sym some.parts ∙ change.there) around.shown in
          let fixed : f n ≡ n = fused_first n m order in
          let fuses : Fuses f word at.r at.run = record { fixed = fixed; first = ap f (sym begins); last = fixed ∙ sym (fused_last n m order) ∙ ap f (sym ends) } in
          let new = at.becomes word f shown symbol closes fuses in
          let form = change.becomes word [] new.now (run_uncut (word ∷ []) (word_run (symbol_of Word w) n symbol)) new.is in
          record {
            now = stmt_moved f (record st { kind = stmt.AlterTable; body = body.Alter path (earlier ++ new.now ∷ later) });
            has = action_now f (Is f n) st path earlier later new.now kind new.has;
            is = statement_reads f us st some.first some.front at.r at.run change.tail end.end word (stmt.AlterTable, body.Alter path (earlier ++ new.now ∷ later)) e parts bare closes.closed symbol fuses
                (ap (λ (x : List Terminal). form_of (x ++ word ∷ change.tail)) (sym some.parts) ∙ form);
          };
    }
