-- The order of the rows of a table, and the tables that rows are in.
-- A statement is read by the first row whose lead words match. It is the one with the longest lead: no lead of an earlier
-- row is the beginning of a longer one of a later row.
use Rattle.std.specs.Prelude.{◌≡◌, Bool, true, false, not, ◌&&◌, List, [], ◌∷◌, ◌++◌, map}
use Rattle.std.specs.List.{flat_map, list_any, list_all}
use Rattle.std.specs.Cmp.Lexicographic.{pointwise}
use denote.Enum.Bare.{sameb}
use Rattle.sql_token.specs.sql_keyword.Same.{same_keyword}
use Rattle.sql_token.specs.sql_keyword.declared.words.Keyword.{Keyword}
use Rattle.sql_token.specs.sql_keyword.declared.words.TheConstants.Keyword as keyword
use Rattle.sql_token.specs.declared.terminal.Terminal.{Terminal}
use Rattle.sql_tree.specs.contracts.kinds.StmtKind as kinds
use Rattle.sql_tree.specs.declared.forms.Family.{Family}
use Rattle.sql_tree.specs.declared.forms.Family.TheVariants as family
use Rattle.sql_tree.specs.declared.forms.Part.{Part}
use Rattle.sql_tree.specs.declared.forms.Part.TheVariants as p
use Rattle.sql_tree.specs.Forms.{Row, words_of, family_of, create_rows, alter_rows, drop_rows, rows_of}

-- a step of a lead: a word, a name or a path, or a bracket list
pub data Step : Type 0 where
  word : Keyword → Step
  name : Step
  brackets : Step

abbrev pub same_step : Step → Step → Bool
same_step (word v) (word w) = same_keyword v w
same_step name name = true
same_step brackets brackets = true
same_step _ _ = false

-- a word, or nothing
abbrev pub maybe_word : Keyword → List (List Step)
maybe_word w = [] ∷ (word w ∷ []) ∷ []

-- what a part of a lead may be: an optional part is there or not, and of the words before TABLE there is one at most
abbrev pub choices : Part → List (List Step)
choices (p.Word w) = (word w ∷ []) ∷ []
choices (p.Object w) = (word w ∷ []) ∷ []
choices (p.MaybeObject w) = maybe_word w
choices (p.Flag w fact) = maybe_word w
choices (p.Either v w) = [] ∷ (word v ∷ []) ∷ (word w ∷ []) ∷ []
choices (p.Maybe phrase fact) = [] ∷ map word (words_of phrase) ∷ []
choices p.Mods = [] ∷ map (λ w. word w ∷ []) (keyword.GLOBAL ∷ keyword.LOCAL ∷ keyword.TEMP ∷ keyword.TEMPORARY ∷ keyword.UNLOGGED ∷ [])
choices p.Into = (word keyword.INTO ∷ []) ∷ []
choices p.Name = (name ∷ []) ∷ []
choices p.AnyName = (name ∷ []) ∷ []
choices p.Path = (name ∷ []) ∷ []
choices p.List = (brackets ∷ []) ∷ []
choices p.MaybeList = [] ∷ (brackets ∷ []) ∷ []
choices _ = [] ∷ []

-- the leads that these parts stand for
abbrev pub leads_of : List Part → List (List Step)
leads_of [] = [] ∷ []
leads_of (part ∷ parts) = flat_map (λ first. map (λ others. first ++ others) (leads_of parts)) (choices part)

abbrev pub leads : Row → List (List Step)
leads row = leads_of row.1

-- ---- the longest lead wins

-- the steps are the beginning of a longer list
abbrev pub begins : List Step → List Step → Bool
begins xs [] = false
begins [] (y ∷ ys) = true
begins (x ∷ xs) (y ∷ ys) = same_step x y && begins xs ys

-- some lead of a row is the beginning of a longer one of another row
abbrev pub is_shorter : Row → Row → Bool
is_shorter row other = list_any (λ lead. list_any (begins lead) (leads other)) (leads row)

-- no row has a lead that is the beginning of a longer one of a later row
abbrev pub longest_first : List Row → Bool
longest_first [] = true
longest_first (row ∷ later) = list_all (λ other. not (is_shorter row other)) later && longest_first later

-- in each table
abbrev pub LongestLeadWins : Type 0
LongestLeadWins = (first : Keyword) (ts : List Terminal) → longest_first (rows_of first ts) ≡ true

-- ---- families

abbrev pub family_of_lead : List Step → Family
family_of_lead (word w ∷ steps) = family_of w
family_of_lead _ = family.Other

-- a row of the same kind has this lead
abbrev pub has_lead : Row → List Step → Row → Bool
has_lead row lead other = sameb kinds.the_type row.0 other.0 && list_any (pointwise same_step lead) (leads other)

-- each lead of the row is found in the table of the family that the lead tells
abbrev pub is_found : (Family → List Row) → Row → Bool
is_found rows row = list_all (λ lead. list_any (has_lead row lead) (rows (family_of_lead lead))) (leads row)

-- No row of CREATE, ALTER or DROP is missed because a statement is looked up in one table alone.
pub record LeadsInTheirFamily : Type 0 where
  pub create : (f : Family) → list_all (is_found create_rows) (create_rows f) ≡ true
  pub alter : (f : Family) → list_all (is_found alter_rows) (alter_rows f) ≡ true
  pub drop : (f : Family) → list_all (is_found drop_rows) (drop_rows f) ≡ true
