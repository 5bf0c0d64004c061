-- The JSON of a reply has no float and is not deep.
use Rattle.std.proofs.Common.{◌≡◌, ◌≤◌, ℕ, ℤ, false, List, [], ◌∷◌, ◌++◌, flat_map, cond, Bool, true, Option, None, Some, option_map, refl, arith, subst}
use Rattle.serde_json.specs.Data.{Data, depth}
use Rattle.serde_json.specs.View.{items_of}
use Rattle.serde_json.specs.Written.{has_float}
use Rattle.diag_json.specs.text_utf16.declared.position.Pos.{Pos}
use Rattle.diag_json.specs.Json.{position_json, range_json}
use Rattle.lsp_session.specs.lint_report.declared.code.Code.{Code}
use Rattle.lsp_session.specs.lint_report.declared.code.Code.TheVariants as by
use Rattle.lsp_session.specs.declared.message.Id.{Id}
use Rattle.lsp_session.specs.declared.message.Id.TheVariants.{Null, Number, Text}
use Rattle.lsp_session.specs.declared.reply.Answer as answer
use Rattle.lsp_session.specs.declared.reply.Answer.TheVariants.{Capabilities, Done, Remedies, Explanation, Refused, Failed}
use Rattle.lsp_session.specs.declared.reply.Reply.{Reply}
use Rattle.lsp_session.specs.declared.reply.Reply.TheVariants.{Answer, Reports}
use Rattle.lsp_session.specs.declared.report.Change.{Change}
use Rattle.lsp_session.specs.declared.report.Report.{Report}
use Rattle.lsp_session.specs.Remedy.{RemedyValue}
use Rattle.lsp_write.proofs.Fits.{Fits, ItemsFit, MembersFit, both, ends, in_array, in_list, in_object, integer, leaf, null_fits, one_item, next, then_if, truth, whole}
use Rattle.lsp_write.specs.Action.{action_if, action_json, actions_of, change_json, edit_json, meets}
use Rattle.lsp_write.specs.Diagnostic.{diagnostic_by, diagnostic_json, from_message, integer_json, published_json, published_params, unlinked}
use Rattle.lsp_write.specs.Hover.{explanations, hover_json, hover_of}
use Rattle.lsp_write.specs.Reply.{reply_json}
use Rattle.lsp_write.specs.Response.{capabilities, capabilities_json, error_json, failed_number, id_json, number_of, response_json, result_json, sync_json, words_of}

range_fits : (start end : Pos) → Fits 2 (range_json start end)
unfolding range_json position_json
range_fits start end = record { plain = refl; shallow = omega arith }

-- ---- reports

message_fits : (severity : ℕ) (r : Report) → MembersFit 2 (from_message severity r)
message_fits severity r = next 2 _ _ _ (leaf 2 r.message) (next 2 _ _ _ (range_fits r.start r.end) (next 2 _ _ _ (whole 2 severity) (next 2 _ _ _ (leaf 2 _) (ends 2))))

unlinked_fits : (severity : ℕ) (r : Report) → Fits 3 (unlinked severity r)
unlinked_fits severity r = in_object 2 3 _ (omega arith) (next 2 _ _ _ (leaf 2 _) (message_fits severity r))

by_code : (code : Option Code) (r : Report) → Fits 3 (diagnostic_by code r)
by_code (Some (by.Rule rule)) r =
    in_object 2 3 _ (omega arith) (next 2 _ _ _ (leaf 2 _) (next 2 _ _ _ (in_object 1 2 _ (omega arith) (next 1 _ _ _ (leaf 1 _) (ends 1))) (message_fits 2 r)))
by_code (Some (by.Hazard hazard)) r = unlinked_fits 2 r
by_code None r = unlinked_fits 1 r

diagnostic_fits : (r : Report) → Fits 3 (diagnostic_json r)
unfolding diagnostic_json
diagnostic_fits r = by_code r.code r

version_fits : (version : Option ℤ) (d : Data) → option_map integer_json version ≡ Some d → Fits 4 d
version_fits None d e = absurd (cc)
version_fits (Some z) d e = let same : integer_json z ≡ d = cc in subst (Fits 4) same (integer 4 z)

params_fit : (uri : List ℕ) (version : Option ℤ) (reports : List Report) → Fits 5 (published_params uri version reports)
unfolding published_params
params_fit uri version reports =
    in_object 4 5 _ (omega arith) (next 4 _ _ _ (in_list 3 4 diagnostic_json reports (omega arith) diagnostic_fits) (next 4 _ _ _ (leaf 4 uri) (then_if 4 _ _ _ (version_fits version) (ends 4))))

published_fits : (uri : List ℕ) (version : Option ℤ) (reports : List Report) → Fits 6 (published_json uri version reports)
unfolding published_json
published_fits uri version reports =
    in_object 5 6 _ (omega arith) (next 5 _ _ _ (leaf 5 _) (next 5 _ _ _ (leaf 5 _) (next 5 _ _ _ (params_fit uri version reports) (ends 5))))

-- ---- remedies

change_fits : (c : Change) → Fits 3 (change_json c)
unfolding change_json
change_fits c = in_object 2 3 _ (omega arith) (next 2 _ _ _ (leaf 2 _) (next 2 _ _ _ (range_fits c.start c.end) (ends 2)))

edit_fits : (uri : List ℕ) (changes : List Change) → Fits 6 (edit_json uri changes)
unfolding edit_json
edit_fits uri changes =
    in_object 5 6 _ (omega arith) (next 5 _ _ _ (in_object 4 5 _ (omega arith) (next 4 _ _ _ (in_list 3 4 change_json changes (omega arith) change_fits) (ends 4))) (ends 5))

action_fits : (uri : List ℕ) (r : Report) (remedy : RemedyValue) → Fits 7 (action_json uri r remedy)
unfolding action_json
action_fits uri r remedy =
    in_object 6 7 _ (omega arith)
    (next 6 _ _ _ (in_array 3 6 _ (omega arith) (one_item 3 _ (diagnostic_fits r)))
    (next 6 _ _ _ (edit_fits uri remedy.changes)
    (next 6 _ _ _ (truth 6 _)
    (next 6 _ _ _ (leaf 6 _)
    (next 6 _ _ _ (leaf 6 _) (ends 6))))))

none_fit : ItemsFit 7 (items_of [])
none_fit = record { plain = refl; shallow = omega arith }

more_fit : (d : Data) (ds : List Data) → Fits 7 d → ItemsFit 7 (items_of ds) → ItemsFit 7 (items_of (d ∷ ds))
more_fit d ds one rest = record { plain = rw one.plain rest.plain; shallow = both _ _ 7 one.shallow rest.shallow }

if_fits : (uri : List ℕ) (r : Report) (remedy : Option RemedyValue) (ds : List Data) → ItemsFit 7 (items_of ds) → ItemsFit 7 (items_of (action_if uri r remedy ++ ds))
if_fits uri r None ds rest = rest
if_fits uri r (Some remedy) ds rest = more_fit _ ds (action_fits uri r remedy) rest

two_fit : (uri : List ℕ) (r : Report) (first second : Option RemedyValue) (ds : List Data) → ItemsFit 7 (items_of ds) → ItemsFit 7 (items_of ((action_if uri r first ++ action_if uri r second) ++ ds))
two_fit uri r None second ds rest = if_fits uri r second ds rest
two_fit uri r (Some remedy) second ds rest = more_fit _ _ (action_fits uri r remedy) (if_fits uri r second ds rest)

chosen_fit : (uri : List ℕ) (b : Bool) (r : Report) (ds : List Data) → ItemsFit 7 (items_of ds)
    → ItemsFit 7 (items_of (cond b (action_if uri r r.fix ++ action_if uri r r.ignore) [] ++ ds))
chosen_fit uri true r ds rest = two_fit uri r r.fix r.ignore ds rest
chosen_fit uri false r ds rest = rest

actions_fit : (uri : List ℕ) (reports : List Report) (start end : Pos) → ItemsFit 7 (items_of (flat_map (actions_of uri start end) reports))
actions_fit uri [] start end = none_fit
actions_fit uri (r ∷ rs) start end = chosen_fit uri (meets r start end) r (flat_map (actions_of uri start end) rs) (actions_fit uri rs start end)

-- ---- responses

contents_fit : (text : List ℕ) → Fits 8 (hover_of text)
contents_fit [] = null_fits 8
contents_fit (byte ∷ bytes) =
    in_object 7 8 _ (omega arith) (next 7 _ _ _ (in_object 6 7 _ (omega arith) (next 6 _ _ _ (leaf 6 _) (next 6 _ _ _ (leaf 6 _) (ends 6)))) (ends 7))

hover_fits : (reports : List Report) (at : Pos) → Fits 8 (hover_json reports at)
unfolding hover_json
hover_fits reports at = contents_fit (explanations reports at)

id_fits : (n : ℕ) (id : Id) → Fits n (id_json id)
id_fits n Null = null_fits n
id_fits n (Number z) = integer n z
id_fits n (Text text) = leaf n text

result_fits : (id : Id) (result : Data) → Fits 8 result → Fits 9 (result_json id result)
unfolding result_json
result_fits id result fit = in_object 8 9 _ (omega arith) (next 8 _ _ _ (id_fits 8 id) (next 8 _ _ _ (leaf 8 _) (next 8 _ _ _ fit (ends 8))))

error_fits : (id : Id) (number : ℤ) (words : List ℕ) → Fits 9 (error_json id number words)
unfolding error_json
error_fits id number words =
    in_object 8 9 _ (omega arith)
    (next 8 _ _ _ (in_object 7 8 _ (omega arith) (next 7 _ _ _ (integer 7 number) (next 7 _ _ _ (leaf 7 words) (ends 7))))
    (next 8 _ _ _ (id_fits 8 id) (next 8 _ _ _ (leaf 8 _) (ends 8))))

capabilities_fit : Fits 8 capabilities_json
unfolding capabilities_json capabilities sync_json
capabilities_fit = record { plain = refl; shallow = omega arith }

response_fits : (id : Id) (a : answer.Answer) → Fits 9 (response_json id a)
response_fits id Capabilities = result_fits id capabilities_json capabilities_fit
response_fits id Done = result_fits id _ (null_fits 8)
response_fits id (Remedies uri reports start end) = result_fits id _ (in_array 7 8 _ (omega arith) (actions_fit uri reports.items start end))
response_fits id (Explanation reports at) = result_fits id _ (hover_fits reports.items at)
response_fits id (Refused why) = error_fits id (number_of why) (words_of why)
response_fits id (Failed why) = error_fits id failed_number why

wider : (d : Data) → Fits 6 d → Fits 9 d
wider d fit = record { plain = fit.plain; shallow = omega (arith, fit.shallow) }

reply_fits : (reply : Reply) → Fits 9 (reply_json reply)
reply_fits (Answer id a) = response_fits id a
reply_fits (Reports uri version reports) = wider _ (published_fits uri version reports.items)

pub no_float : (reply : Reply) → has_float (reply_json reply) ≡ false
no_float reply = (reply_fits reply).plain

pub not_deep : (reply : Reply) → depth (reply_json reply) ≤ 127
not_deep reply = omega (arith, (reply_fits reply).shallow)
