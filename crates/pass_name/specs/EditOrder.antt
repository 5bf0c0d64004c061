-- When the deletions of a fix come one after the other.
use Rattle.std.proofs.Common.{◌<◌, ◌≤◌, ℕ, Option, Some, None, List, [], ◌∷◌, length}
use Rattle.std.specs.List.{flat_map}
use Rattle.std.specs.Prelude.{All, ⊤}
use Rattle.std.specs.Str.{IsCharBoundary}
use Rattle.lint_pass.specs.lint_base.declared.edit.Edit.{Edit}
use Rattle.sql_token.specs.declared.token.Tok.{Tok}
use Rattle.sql_token.specs.Token.{Text}
use Rattle.lint_pass.specs.sql_tree.Statement.{Tree}
use Rattle.pass_name.specs.declared.members.Member.{Member}
use Rattle.pass_name.specs.declared.members.Removable.{Removable}
use Rattle.pass_name.specs.BanDuplicateColumnAssignments.{deletions_of}

-- R holds of each element and each later one
abbrev pub InPairs : {A : Type 0} → (A → A → Type 0) → List A → Type 0
InPairs R [] = ⊤
InPairs R (x ∷ xs) = All (R x) xs × InPairs R xs

-- ---- names, by the parts that set them

-- The first part, the one after it and the second part begin in this order, at tokens below this count. No part is in order with any.
abbrev pub FollowsBy : ℕ → Option Removable → Option Removable → Type 0
FollowsBy count None other = ⊤
FollowsBy count (Some r) None = ⊤
FollowsBy count (Some r) (Some s) = (r.first ≤ r.next) × (r.next ≤ s.first) × (s.first < count)

-- the part of the second name follows the part of the first one
abbrev pub Follows : ℕ → Member → Member → Type 0
Follows count m n = FollowsBy count m.part n.part

-- the names are in the order of their parts
abbrev pub InOrder : Tree → List Member → Type 0
InOrder tree ms = InPairs (Follows (length tree.toks)) ms

-- ---- tokens and edits

-- the token begins at a place of the text
abbrev pub Starts : Text → Tok → Type 0
Starts text t = IsCharBoundary text t.start

-- the token begins at this place or before it
abbrev pub StartsBy : ℕ → Tok → Type 0
StartsBy place t = t.start ≤ place

-- the first edit ends before the second one begins
abbrev pub EndsBefore : Edit → Edit → Type 0
EndsBefore e d = e.text_range.end ≤ d.text_range.start

-- the deletions of these names, in their order
abbrev pub edits_by : Tree → List Member → List Edit
edits_by tree ms = flat_map (λ (m : Member). deletions_of tree m.part) ms
