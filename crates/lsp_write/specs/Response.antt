-- Answers as responses of JSON-RPC.
use Rattle.std.specs.Prelude.{ℕ, ℤ, negsuc, ◌-◌, List, codes, true}
use Rattle.diag_json.specs.Json.{whole_json}
use Rattle.lsp_session.specs.declared.message.Id.{Id}
use Rattle.lsp_session.specs.declared.message.Id.TheVariants.{Null, Number, Text}
use Rattle.lsp_session.specs.declared.reply.Answer.{Answer}
use Rattle.lsp_session.specs.declared.reply.Answer.TheVariants.{Capabilities, Done, Remedies, Explanation, Refused, Failed}
use Rattle.lsp_session.specs.declared.reply.Refusal.{Refusal}
use Rattle.lsp_session.specs.declared.reply.Refusal.TheVariants.{BadParams, BadRequest, NoMethod, NotInitialized, NotJson}
use Rattle.lsp_write.specs.Action.{actions_json}
use Rattle.lsp_write.specs.Diagnostic.{integer_json}
use Rattle.lsp_write.specs.Hover.{hover_json}
use Rattle.serde_json.specs.Data.{Data, array, boolean, item, member, no_items, no_members, null, object, string}

-- a negative number
abbrev pub below_zero : ℕ → ℤ
below_zero n = negsuc (n - 1)

-- the number that the protocol has for a refusal
abbrev pub number_of : Refusal → ℤ
number_of NotJson = below_zero 32700
number_of BadRequest = below_zero 32600
number_of NoMethod = below_zero 32601
number_of BadParams = below_zero 32602
number_of NotInitialized = below_zero 32002

-- what a refusal says to a reader
abbrev pub words_of : Refusal → List ℕ
words_of NotJson = codes "not JSON"
words_of BadRequest = codes "invalid request"
words_of NoMethod = codes "unknown method"
words_of BadParams = codes "invalid parameters"
words_of NotInitialized = codes "not initialized"

abbrev pub id_json : Id → Data
id_json Null = null
id_json (Number n) = integer_json n
id_json (Text text) = string text

-- the response that has the result of a request
unfoldable pub result_json : Id → Data → Data
result_json id result = object (member (codes "id") (id_json id) (member (codes "jsonrpc") (string (codes "2.0")) (member (codes "result") result no_members)))

-- the number that it has for a request that was well formed, and failed: `RequestFailed`
abbrev pub failed_number : ℤ
failed_number = below_zero 32803

-- the response that refuses a request, with a number and what it says to a reader
unfoldable pub error_json : Id → ℤ → List ℕ → Data
error_json id number words =
    object (member (codes "error") (object (member (codes "code") (integer_json number) (member (codes "message") (string words) no_members)))
    (member (codes "id") (id_json id)
    (member (codes "jsonrpc") (string (codes "2.0")) no_members)))

-- how texts are kept the same: each change has the whole text
unfoldable pub sync_json : Data
sync_json = object (member (codes "change") (whole_json 1) (member (codes "openClose") (boolean true) no_members))

-- what the server can do
unfoldable pub capabilities : Data
capabilities =
    object (member (codes "codeActionProvider") (object (member (codes "codeActionKinds") (array (item (string (codes "quickfix")) no_items)) no_members))
    (member (codes "hoverProvider") (boolean true)
    (member (codes "positionEncoding") (string (codes "utf-16"))
    (member (codes "textDocumentSync") sync_json no_members))))

unfoldable pub capabilities_json : Data
capabilities_json =
    object (member (codes "capabilities") capabilities
    (member (codes "serverInfo") (object (member (codes "name") (string (codes "lavkheto")) no_members)) no_members))

-- the response to a request
abbrev pub response_json : Id → Answer → Data
response_json id Capabilities = result_json id capabilities_json
response_json id Done = result_json id null
response_json id (Remedies uri reports start end) = result_json id (actions_json uri reports.items start end)
response_json id (Explanation reports at) = result_json id (hover_json reports.items at)
response_json id (Refused why) = error_json id (number_of why) (words_of why)
response_json id (Failed why) = error_json id failed_number why
