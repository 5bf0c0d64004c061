-- Rows that read actions and pieces: what holds of each row that may read holds of what is read.
use Rattle.std.proofs.Common.{◌≡◌, Bool, true, List, [], ◌∷◌, map, refl, Option, Some, None}
use Rattle.std.proofs.lemmas.Bool.{and_parts}
use Rattle.std.specs.List.{list_all}
use Rattle.std.specs.Option.{option_and_then}
use Rattle.law_edit_inserts.specs.sql_keyword.declared.words.TheConstants.Keyword as keyword
use Rattle.law_edit_inserts.specs.sql_token.declared.terminal.Terminal.{Terminal}
use Rattle.law_edit_inserts.specs.sql_tree.declared.forms.Part.{Part}
use Rattle.law_edit_inserts.specs.sql_tree.declared.kinds.ActionKind.{ActionKind}
use Rattle.law_edit_inserts.specs.sql_tree.declared.kinds.StmtKind.TheVariants as stmt
use Rattle.law_edit_inserts.specs.sql_tree.declared.nodes.Action.{Action}
use Rattle.law_edit_inserts.specs.sql_tree.declared.nodes.Constraint.{Constraint}
use Rattle.law_edit_inserts.specs.sql_tree.declared.actions.TheConstants.{OTHER}
use Rattle.law_edit_inserts.specs.sql_tree.Forms.{State, ActionRow, at, after_word, either_of, fresh, in_turn, all_taken, finished, first_whole}
use Rattle.law_edit_inserts.specs.sql_tree.ActionRows.{first_rows_at, own_rows, general_rows_at}
use Rattle.law_edit_inserts.specs.sql_tree.Constraint.{table_constraint}
use Rattle.law_edit_inserts.specs.sql_tree.Action.{adding, adding_after, add_constraint, takes_constraint, added_constraint, built, by_rows, own_part, own_action, general_action, listed_action, options, unlisted_action, action}
use Rattle.law_edit_inserts.proofs.Leading.{Given, given_then, given_any}

-- ---- rows of any kind

pub either_given : {A : Type 0} (P : A → Type 0) (x y : Option A) → Given P x → Given P y → Given P (either_of x y)
either_given P None y g h = h
either_given P (Some x) y g h = g

-- what a row reads is of its kind
pub row_given : {K : Type 0} (Q : K × State → Type 0) (kind : K) (parts : List Part) (st : State) → ((e : State) → Q (kind, e)) → Given Q (finished kind parts st)
row_given Q kind parts st h =
    given_any Q (λ e. option_and_then (λ w. Some (kind, w)) (all_taken e)) (in_turn parts st.kept st.left)
    (λ e. given_any Q (λ w. Some (kind, w)) (all_taken e) (λ w. h w))

-- the test passes for each kind of these rows
abbrev pub rows_pass : {K : Type 0} → (K → Bool) → List (K × List Part) → Bool
rows_pass test rows = list_all (λ r. test r.0) rows

pub whole_given : {K : Type 0} (test : K → Bool) (rows : List (K × List Part)) (zs : List Terminal) → rows_pass test rows ≡ true → Given (λ (f : K × State). test f.0 ≡ true) (first_whole rows zs)
whole_given test [] zs h = tt
whole_given test (r ∷ rs) zs h =
    let both = and_parts (test r.0) (rows_pass test rs) h in
    either_given (λ (f : _ × State). test f.0 ≡ true) (finished r.0 r.1 (at fresh zs)) (first_whole rs zs)
    (row_given (λ (f : _ × State). test f.0 ≡ true) r.0 r.1 (at fresh zs) (λ e. both.0)) (whole_given test rs zs both.1)

-- ---- actions of ALTER TABLE

-- Where `P` holds of each action of a kind that passes the test, and of a constraint that is added, it holds of each action that
-- such rows read.
module _ (test : ActionKind → Bool) (P : Action → Type 0) (each : (zs : List Terminal) (kind : ActionKind) (e : State) → test kind ≡ true → Given P (built zs kind e)) where
  pub rows_given : (rows : List ActionRow) (zs : List Terminal) → rows_pass test rows ≡ true → Given P (by_rows rows zs)
  unfolding by_rows
  rows_given rows zs h = given_then (λ (f : ActionKind × State). test f.0 ≡ true) P (λ f. built zs f.0 f.1) (first_whole rows zs) (whole_given test rows zs h) (λ f g. each zs f.0 f.1 g)

  pub unlisted_given : (zs : List Terminal) → rows_pass test (map (λ r. (r.0, r.1.now)) OTHER) ≡ true → Given P (unlisted_action stmt.AlterTable zs)
  unfolding unlisted_action options
  unlisted_given zs h = rows_given (map (λ r. (r.0, r.1.now)) OTHER) zs h

  module _ (add : (zs : List Terminal) (c : Constraint) → P (adding zs c)) where
    added_given : (zs : List Terminal) → Given P (added_constraint stmt.AlterTable zs)
    unfolding added_constraint takes_constraint add_constraint
    added_given zs = given_any P (adding_after zs) (after_word keyword.ADD zs) (λ rest. given_any P (λ constraint. Some (adding zs constraint)) (table_constraint rest) (λ c. add zs c))

    pub action_given : (x : Terminal) (ts : List Terminal) → rows_pass test (first_rows_at x.symbol) ≡ true → rows_pass test (general_rows_at x.symbol) ≡ true → rows_pass test (map (λ r. (r.0, r.1.now)) OTHER) ≡ true → Given P (action stmt.AlterTable (x ∷ ts))
    unfolding action listed_action own_action general_action own_part own_rows
    action_given x ts first general other =
        either_given P _ (unlisted_action stmt.AlterTable (x ∷ ts))
        (either_given P (by_rows (first_rows_at x.symbol) (x ∷ ts)) _ (rows_given (first_rows_at x.symbol) (x ∷ ts) first)
        (either_given P (by_rows [] (x ∷ ts)) _ (rows_given [] (x ∷ ts) refl)
        (either_given P (added_constraint stmt.AlterTable (x ∷ ts)) (by_rows (general_rows_at x.symbol) (x ∷ ts)) (added_given (x ∷ ts)) (rows_given (general_rows_at x.symbol) (x ∷ ts) general))))
        (unlisted_given (x ∷ ts) other)
