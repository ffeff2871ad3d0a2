-- The effect of a session on the bytes of its input and of its output. This project's own.
use Rattle.std.specs.Prelude.{◌≡◌, ℕ, List, ◌++◌, Option, Err}
use Rattle.std.specs.Io.KnownBytes.{Appends, Consumes, IsAtEnd}
use Rattle.tq_base.specs.declared.form.Form.{Form}
use Rattle.tq_base.specs.declared.catalogue.Catalogue.{Catalogue}
use Rattle.tq_event.specs.declared.file.Loaded.{Loaded}
use Rattle.tq_event.specs.declared.file.TableFile.{TableFile}
use Rattle.tq_event.specs.Loading.{IsLoaded, contents_of}
use Rattle.tq_table.specs.Sink.{AppendsPrefix}
use Rattle.tq_snapshot.specs.declared.faults.OpenFault.{OpenFault}
use Rattle.tq_snapshot.specs.declared.faults.OpenFault.TheVariants as open_fault
use Rattle.tq_snapshot.specs.Calls.{WriterState}
use Rattle.tq_session.specs.declared.transcript.SessionFault.{SessionFault}
use Rattle.tq_session.specs.declared.transcript.SessionFault.TheVariants as session
use Rattle.tq_session.specs.Lines.{Line, ended_lines, lines_of}
use Rattle.tq_session.specs.Transcripts.{IsTranscript, opening}

-- the known bytes of input and output: a session consumes those of the input and adds to those of the output
pub record Streams : Type 0 where
  pub input : Option (List ℕ)
  pub output : Option (List ℕ)

abbrev pub streams : Option (List ℕ) → Option (List ℕ) → Streams
streams input output = record { input = input; output = output }

-- the input was read to its end, and the replies to all its lines were printed
pub record RepliesToAll (form : Form) (catalogue : Catalogue) (first : WriterState) (before after : Streams) : Type 0 where
  pub read : List ℕ
  pub consumed : Consumes before.input after.input read
  pub at_end : IsAtEnd after.input
  pub text : List ℕ
  pub last : WriterState
  pub is_transcript : IsTranscript form catalogue first (lines_of read) text last
  pub appended : Appends before.output after.output text

-- some of the input was read, and the replies to all complete lines in it were printed
pub record RepliesToEnded (form : Form) (catalogue : Catalogue) (first : WriterState) (before after : Streams) : Type 0 where
  pub read : List ℕ
  pub consumed : Consumes before.input after.input read
  pub text : List ℕ
  pub last : WriterState
  pub is_transcript : IsTranscript form catalogue first (ended_lines (lines_of read)) text last
  pub appended : Appends before.output after.output text

-- some of the input was read, and a prefix of the replies to its first lines was printed
pub record RepliesToSome (form : Form) (catalogue : Catalogue) (first : WriterState) (before after : Streams) : Type 0 where
  pub read : List ℕ
  pub consumed : Consumes before.input after.input read
  pub lines : List Line
  pub more : List Line
  pub are_first : lines_of read ≡ lines ++ more
  pub text : List ℕ
  pub last : WriterState
  pub is_transcript : IsTranscript form catalogue first lines text last
  pub appended : AppendsPrefix before.output after.output text

-- the same over the tables of the files: all lines have replies, the complete lines, or some
pub record HasRepliedToAll (form : Form) (files : List TableFile) (before after : Streams) : Type 0 where
  pub loaded : Loaded
  pub is_loaded : IsLoaded form files 16777216 loaded
  pub answers : RepliesToAll form loaded.catalogue (opening loaded.events) before after

pub record HasRepliedToEnded (form : Form) (files : List TableFile) (before after : Streams) : Type 0 where
  pub loaded : Loaded
  pub is_loaded : IsLoaded form files 16777216 loaded
  pub answers : RepliesToEnded form loaded.catalogue (opening loaded.events) before after

pub record HasRepliedToSome (form : Form) (files : List TableFile) (before after : Streams) : Type 0 where
  pub loaded : Loaded
  pub is_loaded : IsLoaded form files 16777216 loaded
  pub answers : RepliesToSome form loaded.catalogue (opening loaded.events) before after

-- why a session did not begin, from why no store was opened
abbrev pub open_refusal : OpenFault → SessionFault
open_refusal open_fault.NoPlace = session.NoPlace
open_refusal open_fault.OutOfMemory = session.OutOfMemory

-- why a session did not begin: the first fault of the files, a refused place, or a failed allocation
abbrev pub IsStartFault : Form → List TableFile → SessionFault → Type 0
IsStartFault form files (session.Load fault) = contents_of form files 16777216 ≡ Err fault
IsStartFault form files session.NoPlace = Unit {0}
IsStartFault form files session.OutOfMemory = Unit {0}
IsStartFault form files session.Read = ⊥
IsStartFault form files session.Write = ⊥
