use Rattle.std.proofs.Common.{◌≡◌, ◌++◌, length}
use Rattle.std.specs.Prelude.{All, flat_map}
use denote.Shadow.{shadow}
use denote.Text.{Utf8}
use Rattle.migration_gate.specs.Bundle.{IsEntry, entries_of, entry_bytes}
use Rattle.migration_gate.proofs.bundle.read_bundle.Given as goal

-- the text is the entries of the files so far, and what is left to read
abbrev pub invariant-reading : goal.invariant-reading
invariant-reading l = record {
  utf8 : shadow (Utf8 l.rest);
  each : All IsEntry (entries_of l.files.items);
  is : l.text ≡ flat_map entry_bytes (entries_of l.files.items) ++ l.rest;
}

abbrev pub decreases-reading : goal.decreases-reading
decreases-reading l = length l.rest
