-- Replies as JSON.
use Rattle.std.specs.Prelude.{ℕ, List}
use Rattle.lsp_session.specs.declared.reply.Reply.{Reply}
use Rattle.lsp_session.specs.declared.reply.Reply.TheVariants.{Answer, Reports}
use Rattle.lsp_write.specs.Diagnostic.{published_json}
use Rattle.lsp_write.specs.Response.{response_json}
use Rattle.serde_json.specs.Data.{Data}
use Rattle.serde_json.specs.Written.{compact_text}

abbrev pub reply_json : Reply → Data
reply_json (Answer id answer) = response_json id answer
reply_json (Reports uri version reports) = published_json uri version reports.items

-- and its text, without spaces
unfoldable pub reply_text : Reply → List ℕ
reply_text reply = compact_text (reply_json reply)
