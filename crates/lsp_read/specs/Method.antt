-- What the methods of requests and notifications ask for and tell.
use Rattle.std.specs.Prelude.{ℕ, List, Option, Some, None, codes, bytes_eq, option_and_then, if◌then◌else◌}
use Rattle.serde_json.specs.Data.{Data}
use Rattle.lsp_session.specs.declared.message.Call.{Call}
use Rattle.lsp_session.specs.declared.message.Call.TheVariants.{Initialize, Shutdown, Actions, Hover, Misread, Unknown}
use Rattle.lsp_session.specs.declared.message.Document.{Document}
use Rattle.lsp_session.specs.declared.message.Notice.{Notice}
use Rattle.lsp_session.specs.declared.message.Notice.TheVariants.{Exit, Opened, Changed, Closed, Other}
use Rattle.lsp_session.specs.text_utf16.declared.position.Pos.{Pos}
use Rattle.lsp_read.specs.Params.{Part, changed_in, opened_in, part_in, uri_in}
use Rattle.lsp_read.specs.Place.{position_at}
use Rattle.lsp_read.specs.Root.{root_in}

-- a request for the code actions of a part of a document
abbrev pub actions_of : Option Part → Call
actions_of None = Misread
actions_of (Some part) = Actions part.uri part.start part.end

unfoldable pub actions_in : Data → Call
actions_in params = actions_of (part_in params)

-- a request for what is to be known of a place of a document
abbrev pub hover_of : Option (List ℕ × Pos) → Call
hover_of None = Misread
hover_of (Some place) = Hover place.0 place.1

unfoldable pub place_in : Data → Option (List ℕ × Pos)
place_in params =
    option_and_then (λ uri.
    option_and_then (λ at. Some (uri, at))
    (position_at (codes "position") params))
    (uri_in params)

unfoldable pub hover_in : Data → Call
hover_in params = hover_of (place_in params)

-- what a method with parameters asks for
abbrev pub call_with : Option Data → (Data → Call) → Call
call_with None call = Misread
call_with (Some params) call = call params

-- what a request of this method and with these parameters, if it has any, asks for
unfoldable pub call_of : List ℕ → Option Data → Call
call_of method params =
    if bytes_eq method (codes "initialize") then Initialize (option_and_then root_in params)
    else if bytes_eq method (codes "shutdown") then Shutdown
    else if bytes_eq method (codes "textDocument/codeAction") then call_with params actions_in
    else if bytes_eq method (codes "textDocument/hover") then call_with params hover_in
    else Unknown

-- a document that is opened, one that is changed, and one that is closed; what can't be read tells nothing
abbrev pub opened_by : Option (List ℕ) → Option Document → Notice
opened_by (Some uri) (Some document) = Opened uri document
opened_by (Some uri) None = Other
opened_by None document = Other

abbrev pub changed_by : Option (List ℕ) → Option Document → Notice
changed_by (Some uri) (Some document) = Changed uri document
changed_by (Some uri) None = Other
changed_by None document = Other

abbrev pub closed_by : Option (List ℕ) → Notice
closed_by (Some uri) = Closed uri
closed_by None = Other

-- what a notification of this method and with these parameters tells
unfoldable pub notice_with : List ℕ → Data → Notice
notice_with method params =
    if bytes_eq method (codes "textDocument/didOpen") then opened_by (uri_in params) (opened_in params)
    else if bytes_eq method (codes "textDocument/didChange") then changed_by (uri_in params) (changed_in params)
    else if bytes_eq method (codes "textDocument/didClose") then closed_by (uri_in params)
    else Other

abbrev pub notice_if : List ℕ → Option Data → Notice
notice_if method None = Other
notice_if method (Some params) = notice_with method params

-- the same where it may have none
unfoldable pub notice_of : List ℕ → Option Data → Notice
notice_of method params = if bytes_eq method (codes "exit") then Exit else notice_if method params
