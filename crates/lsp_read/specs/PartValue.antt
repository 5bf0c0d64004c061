-- What is read of parameters, as definitions see it.
use Rattle.std.specs.Prelude.{ℕ, List}
use Rattle.lsp_session.specs.text_utf16.declared.position.Pos.{Pos}
use Rattle.lsp_session.specs.declared.message.Document.{Document}
use Rattle.lsp_read.specs.Params.{Part}
use Rattle.lsp_read.specs.declared.method.PlaceRead.{PlaceRead}
use Rattle.lsp_read.specs.declared.params.DocumentRead.{DocumentRead}
use Rattle.lsp_read.specs.declared.params.PartRead.{PartRead}

abbrev pub part_value : PartRead → Part
part_value part = record { uri = part.uri.now; start = part.start; end = part.end }

abbrev pub document_value : DocumentRead → Document
document_value document = record { version = document.version; text = document.text.now }

abbrev pub place_value : PlaceRead → List ℕ × Pos
place_value place = (place.uri.now, place.at)
