-- The hazards: their order and their names.
use Rattle.std.specs.Prelude.{ℕ, Bool, List, Option, codes, find, bytes_eq}
use denote.Enum.Bare.{sameb}
use Rattle.hazard_base.specs.contracts.hazard.Hazard.{the_type}
use Rattle.hazard_base.specs.declared.hazard.Hazard.{Hazard}
use Rattle.hazard_base.specs.declared.hazard.Hazard.TheVariants as hazard
use Rattle.hazard_base.specs.declared.hazard.TheConstants.Hazard.{ALL}

-- `==` on hazards
unfoldable pub same_hazard : Hazard → Hazard → Bool
same_hazard = sameb the_type

-- the bytes of a hazard's printed name
unfoldable pub name_of : Hazard → List ℕ
name_of hazard.StatementInTransaction = codes "statement-in-transaction"
name_of hazard.TableRewrite = codes "table-rewrite"
name_of hazard.ColumnWithCheck = codes "column-with-check"
name_of hazard.BuildUnderTimeout = codes "build-under-timeout"
name_of hazard.InvalidIndexKept = codes "invalid-index-kept"
name_of hazard.RefreshBlocksReads = codes "refresh-blocks-reads"
name_of hazard.JsonColumn = codes "json-column"

-- every hazard, in declaration order
unfoldable pub all_hazards : List Hazard
all_hazards = ALL

-- a text is a hazard's printed name
abbrev pub is_named : List ℕ → Hazard → Bool
is_named text h = bytes_eq (name_of h) text

-- the hazard that a text names
unfoldable pub hazard_named : List ℕ → Option Hazard
hazard_named text = find (is_named text) all_hazards
