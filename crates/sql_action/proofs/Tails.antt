-- Which tails have actions.
use Rattle.std.proofs.Common.{◌≡◌, Bool, true, false, ◌&&◌, if◌then◌else◌, List, [], ◌∷◌, map, refl, ◌∙◌, Option, Some, None}
use Rattle.std.specs.Prelude.{is_some}
use Rattle.std.specs.List.{list_all}
use Rattle.sql_tree.specs.sql_token.declared.terminal.Terminal.{Terminal}
use Rattle.sql_tree.specs.declared.actions.TheConstants.{OTHER}
use Rattle.sql_tree.specs.declared.kinds.StmtKind.{StmtKind}
use Rattle.sql_tree.specs.Forms.{either_of, take_part}
use Rattle.sql_tree.specs.Split.{comma, split, and_others, with_first, all_of}
use Rattle.sql_tree.specs.Action.{has_several, action, actions_of, several_actions, one_action, listed_action, unlisted_action, options, by_rows, built, column_in, pieces_in}
use Rattle.sql_action.specs.Reads.{has_terminal, TailsAreRead}

either_is_some : {A : Type 0} (a b : Option A) → is_some b ≡ true → is_some (either_of a b) ≡ true
either_is_some (Some x) b h = refl
either_is_some None b h = h

other_is_some : (ts : List Terminal) → is_some (by_rows (map (λ r. (r.0, r.1.now)) OTHER) ts) ≡ true
unfolding by_rows built column_in pieces_in take_part
other_is_some ts = refl

unlisted_is_some : (kind : StmtKind) (ts : List Terminal) → is_some (unlisted_action kind ts) ≡ true
unfolding unlisted_action
unlisted_is_some kind ts = either_is_some (options kind ts) _ (other_is_some ts)

action_is_some : (kind : StmtKind) (ts : List Terminal) → is_some (action kind ts) ≡ has_terminal ts
unfolding action
action_is_some kind [] = refl
action_is_some kind (t ∷ ts) = either_is_some (listed_action kind (t ∷ ts)) _ (unlisted_is_some kind (t ∷ ts))

with_first_some : {A : Type 0} (x : A) (others : Option (List A)) → is_some (with_first x others) ≡ is_some others
with_first_some x None = refl
with_first_some x (Some xs) = refl

and_others_some : {A : Type 0} (x : Option A) (others : Option (List A)) → is_some (and_others x others) ≡ (is_some x && is_some others)
and_others_some None others = refl
and_others_some (Some x) others = with_first_some x others

all_are_some : {X A : Type 0} (f : X → Option A) (p : X → Bool) → ((x : X) → is_some (f x) ≡ p x) → (xs : List X) → is_some (all_of f xs) ≡ list_all p xs
all_are_some f p each [] = refl
all_are_some f p each (x ∷ xs) = and_others_some (f x) (all_of f xs) ∙ rw (each x, all_are_some f p each xs) refl

and_true : (b : Bool) → (b && true) ≡ b
and_true true = refl
and_true false = refl

one_is_some : (kind : StmtKind) (tail : List Terminal) → is_some (one_action kind tail) ≡ has_terminal tail
unfolding one_action
one_is_some kind tail = and_others_some (action kind tail) (Some []) ∙ rw (action_is_some kind tail) (and_true (has_terminal tail))

several_are_some : (kind : StmtKind) (tail : List Terminal) → is_some (several_actions kind tail) ≡ list_all has_terminal (split comma tail)
unfolding several_actions
several_are_some kind tail = all_are_some (action kind) has_terminal (action_is_some kind) (split comma tail)

chosen : (b : Bool) (kind : StmtKind) (tail : List Terminal) →
    is_some (if b then several_actions kind tail else one_action kind tail) ≡ (if b then list_all has_terminal (split comma tail) else has_terminal tail)
chosen true kind tail = several_are_some kind tail
chosen false kind tail = one_is_some kind tail

pub tails_read : TailsAreRead
unfolding actions_of
tails_read kind tail = chosen (has_several kind) kind tail
