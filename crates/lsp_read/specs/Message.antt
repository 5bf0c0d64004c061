-- The message that some bytes are.
use Rattle.std.specs.Prelude.{ℕ, List, ◌&&◌, ◌||◌, Option, Some, None, codes, is_some, option_map, if◌then◌else◌}
use Rattle.std.specs.Str.{is_utf8}
use Rattle.serde_json.specs.Data.{Data, array, boolean, null, number, object, string}
use Rattle.serde_json.specs.Find.{as_i64, get}
use Rattle.serde_json.specs.Read.{read}
use Rattle.lsp_session.specs.declared.message.Id as id
use Rattle.lsp_session.specs.declared.message.Id.TheVariants.{Number, Text}
use Rattle.lsp_session.specs.declared.message.Message.{Message}
use Rattle.lsp_session.specs.declared.message.Message.TheVariants.{Request, Notice, Response, Unreadable}
use Rattle.lsp_session.specs.declared.reply.Refusal.TheVariants.{BadRequest, NotJson}
use Rattle.lsp_read.specs.Method.{call_of, notice_of}
use Rattle.lsp_read.specs.Params.{text_at}

-- the name of a request: a whole number of 64 bits or a text
abbrev pub id_of : Data → Option id.Id
id_of null = None
id_of (boolean b) = None
id_of (number n) = option_map Number (as_i64 n)
id_of (string s) = Some (Text s)
id_of (array items) = None
id_of (object entries) = None

-- a request, whose name may be none
abbrev pub request_by : Option id.Id → List ℕ → Option Data → Message
request_by None method params = Unreadable BadRequest
request_by (Some name) method params = Request name (call_of method params)

-- a message with a method: a request where it has a name, else a notification
abbrev pub with_method : Option Data → List ℕ → Option Data → Message
with_method None method params = Notice (notice_of method params)
with_method (Some name) method params = request_by (id_of name) method params

-- a message with no method: an answer where it has a name and an outcome
unfoldable pub without_method : Data → Message
without_method d =
    if is_some (get (codes "id") d) && (is_some (get (codes "result") d) || is_some (get (codes "error") d))
    then Response else Unreadable BadRequest

abbrev pub message_by : Option (List ℕ) → Data → Message
message_by None d = without_method d
message_by (Some method) d = with_method (get (codes "id") d) method (get (codes "params") d)

-- the message that a JSON value is
unfoldable pub message_in : Data → Message
message_in d = message_by (text_at (codes "method") d) d

abbrev pub message_if : Option Data → Message
message_if None = Unreadable NotJson
message_if (Some d) = message_in d

-- the message that some bytes are
unfoldable pub message_of : List ℕ → Message
message_of bytes = if is_utf8 bytes then message_if (read bytes) else Unreadable NotJson
