-- The parameters of methods.
use Rattle.std.specs.Prelude.{ℕ, ◌-◌, ℤ, List, Option, Some, None, codes, option_and_then}
use Rattle.serde_json.specs.Data.{Data, Items}
use Rattle.serde_json.specs.Events.{items_len}
use Rattle.serde_json.specs.Find.{as_array, as_i64, as_number, as_str, get, get_item}
use Rattle.lsp_session.specs.declared.message.Document.{Document}
use Rattle.lsp_read.specs.Place.{position_at}
use Rattle.lsp_session.specs.text_utf16.declared.position.Pos.{Pos}

-- the text that a member is
unfoldable pub text_at : List ℕ → Data → Option (List ℕ)
text_at key d = option_and_then as_str (get key d)

-- the name of the document that parameters speak of
unfoldable pub uri_in : Data → Option (List ℕ)
uri_in params = option_and_then (text_at (codes "uri")) (get (codes "textDocument") params)

-- a part of a document
pub record Part : Type 0 where
  pub uri : List ℕ
  pub start : Pos
  pub end : Pos

-- the part that a request for code actions is about
unfoldable pub part_in : Data → Option Part
part_in params =
    option_and_then (λ uri.
    option_and_then (λ range.
    option_and_then (λ start.
    option_and_then (λ end. Some (record { uri = uri; start = start; end = end }))
    (position_at (codes "end") range))
    (position_at (codes "start") range))
    (get (codes "range") params))
    (uri_in params)

-- the version of a text document, where it is a whole number of 64 bits
unfoldable pub version_of : Data → Option ℤ
version_of document = option_and_then (λ version. option_and_then as_i64 (as_number version)) (get (codes "version") document)

-- a document that is opened
unfoldable pub opened_in : Data → Option Document
opened_in params =
    option_and_then (λ document.
    option_and_then (λ text. Some (record { version = version_of document; text = text }))
    (text_at (codes "text") document))
    (get (codes "textDocument") params)

-- the last item of a list
abbrev pub last_item : Items → Option Data
last_item items = get_item (items_len items - 1) items

-- the text that a change gives to a whole document: a change of a range gives none
abbrev pub whole_text : Data → Option Data → Option (List ℕ)
whole_text change (Some range) = None
whole_text change None = text_at (codes "text") change

-- the last of some changes, which counts
unfoldable pub last_change : Data → Option Data
last_change params = option_and_then (λ changes. option_and_then last_item (as_array changes)) (get (codes "contentChanges") params)

-- a document that is changed
unfoldable pub changed_in : Data → Option Document
changed_in params =
    option_and_then (λ document.
    option_and_then (λ change.
    option_and_then (λ text. Some (record { version = version_of document; text = text }))
    (whole_text change (get (codes "range") change)))
    (last_change params))
    (get (codes "textDocument") params)
