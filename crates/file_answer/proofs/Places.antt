-- Faults of a text are between two of its characters.
use Rattle.std.proofs.Common.{ℕ}
use Rattle.std.specs.Str.{IsCharBoundary, IsUtf8}
use Rattle.law_fault_places.proofs.Places.{open_between, syntax_between}
use Rattle.law_reports.specs.sql_read.sql_token.Token.{OpenAt, Text}
use Rattle.law_reports.specs.sql_read.sql_tree.Statement.{IsSyntaxAt}

pub open_in : (t : Text) (at : ℕ) → OpenAt t at → IsCharBoundary t at
open_in t at h = open_between t at h

pub syntax_in : (t : Text) (at : ℕ) → IsUtf8 t → IsSyntaxAt t at → IsCharBoundary t at
syntax_in t at u h = syntax_between t at u h
