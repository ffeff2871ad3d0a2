-- One step of a session: taking a line and replying to it. This project's own.
use Rattle.std.specs.Prelude.{◌≡◌, ℕ, ◌*◌, ◌-◌, ◌≤◌, List, [], ◌++◌, length, Bool, true, not, Option}
use Rattle.std.specs.Io.KnownBytes.{Consumes, IsAtEnd}
use Rattle.tq_base.specs.declared.form.Form.{Form}
use Rattle.tq_base.specs.declared.catalogue.Catalogue.{Catalogue}
use Rattle.tq_snapshot.specs.Calls.{WriterState}
use Rattle.tq_session.specs.declared.reply.Reply.{Reply}
use Rattle.tq_session.specs.Input.{InputState, IsCutOff, Takes, max_read}
use Rattle.tq_session.specs.Lines.{Line}
use Rattle.tq_session.specs.Transcripts.{Answers}

-- the next line is taken, and this is the reply to it
pub record IsReply (form : Form) (catalogue : Catalogue) (before after : WriterState) (old new : InputState) (known rest : Option (List ℕ)) (reply : Reply) (last : Bool) : Type 0 where
  pub taken : List ℕ
  pub consumed : Consumes known rest taken
  pub few : length taken ≤ max_read * (old.left - new.left)
  pub line : Line
  pub takes : Takes line old.unconsumed taken new.unconsumed
  pub ended : line.ended ≡ not last
  pub at_end : last ≡ true → IsAtEnd rest
  pub answers : Answers form catalogue before line reply after

-- there is no further line
pub record IsEnd (before after : WriterState) (old : InputState) (known rest : Option (List ℕ)) : Type 0 where
  pub taken : List ℕ
  pub consumed : Consumes known rest taken
  pub none : old.unconsumed ++ taken ≡ []
  pub at_end : IsAtEnd rest
  pub same : after ≡ before

-- no further line is complete
pub record IsBroken (before after : WriterState) (old : InputState) (known rest : Option (List ℕ)) : Type 0 where
  pub taken : List ℕ
  pub consumed : Consumes known rest taken
  pub none : IsCutOff old taken
  pub same : after ≡ before
