-- The commands of a session's lines. This project's own.
use Rattle.std.specs.Prelude.{ℕ, ◌+◌, ◌≤◌, ◌==◌, if◌then◌else◌, nat_le, List, take, drop, position, Option, Some, None, option_map, codes}
use Rattle.std.specs.Option.{option_and_then}
use Rattle.std.specs.Str.{bytes_eq}
use Rattle.tq_base.specs.declared.form.Form.{Form}
use Rattle.tq_base.specs.Numbers.{instant_of, natural_up_to}
use Rattle.tq_session.specs.declared.request.Command.{Command}
use Rattle.tq_session.specs.declared.request.Command.TheVariants as command

-- a command: the start or the end of a row, with its table's name, its time and its fields; publishing; or a query,
-- with the count of events, the number of workers and the statement
pub data Request : Type 0 where
  Start : List ℕ → ℕ → List ℕ → Request
  End : List ℕ → ℕ → List ℕ → Request
  Publish : Request
  Ask : ℕ → ℕ → List ℕ → Request

-- the bytes before the first space and those after it, if there is a space
abbrev pub split_at_space : List ℕ → Option (List ℕ × List ℕ)
split_at_space bytes = option_map (λ place. (take place bytes, drop (place + 1) bytes)) (position (λ b. b == 32) bytes)

-- the number from 1 to 16 with these digits
abbrev pub workers_of : List ℕ → Option ℕ
workers_of bytes = option_and_then (λ n. if nat_le 1 n then Some n else None) (natural_up_to 16 bytes)

-- a table's name, a time and values, separated by spaces
abbrev pub event_arguments : Form → List ℕ → Option (List ℕ × (ℕ × List ℕ))
event_arguments form rest =
    option_and_then (λ t. option_and_then (λ a. option_map (λ at. (t.0, (at, a.1))) (instant_of form a.0)) (split_at_space t.1)) (split_at_space rest)

-- a count of events, a number of workers and a statement, separated by spaces
abbrev pub query_arguments : List ℕ → Option (ℕ × (ℕ × List ℕ))
query_arguments rest =
    option_and_then (λ c. option_and_then (λ n. option_and_then (λ w. option_map (λ workers. (n, (workers, w.1))) (workers_of w.0)) (split_at_space c.1))
    (natural_up_to 16777216 c.0)) (split_at_space rest)

-- the command with this first word and these arguments
abbrev pub command_of : Form → List ℕ → List ℕ → Option Request
command_of form word rest =
    if bytes_eq word (codes "start") then option_map (λ e. Start e.0 e.1.0 e.1.1) (event_arguments form rest)
    else (if bytes_eq word (codes "end") then option_map (λ e. End e.0 e.1.0 e.1.1) (event_arguments form rest)
    else (if bytes_eq word (codes "ask") then option_map (λ a. Ask a.0 a.1.0 a.1.1) (query_arguments rest) else None))

-- the command of a line, if it is one
abbrev pub request_of : Form → List ℕ → Option Request
request_of form line =
    if bytes_eq line (codes "publish") then Some Publish else option_and_then (λ p. command_of form p.0 p.1) (split_at_space line)

-- the request that a command is
abbrev pub requested : Command → Request
requested (command.Start words) = Start words.table.now words.at words.fields.now
requested (command.End words) = End words.table.now words.at words.fields.now
requested command.Publish = Publish
requested (command.Ask n workers statement) = Ask n workers statement.now

-- a query has 1 to 16 workers
abbrev pub HasWorkers : Command → Type 0
HasWorkers (command.Ask n workers statement) = (1 ≤ workers) × (workers ≤ 16)
HasWorkers (command.Start words) = Unit {0}
HasWorkers (command.End words) = Unit {0}
HasWorkers command.Publish = Unit {0}
