-- The message for a line of a session that is not a command. This project's own.
use Rattle.std.specs.Prelude.{ℕ, ◌==◌, ◌||◌, nat_lt, Bool, if◌then◌else◌, List, [], ◌∷◌, ◌++◌, codes, length, position, take, Option, None, Some}
use Rattle.std.specs.Str.{bytes_eq}
use Rattle.tq_base.specs.Names.{folded}
use Rattle.tq_base.specs.declared.form.Form.{Form}
use Rattle.tq_base.specs.declared.form.Form.TheVariants.{Dates, Numbers}
use Rattle.tq_diagnostics.specs.Listing.{listed}
use Rattle.tq_diagnostics.specs.Nearest.{nearest_hint}

-- the bytes before a place, if there is one, else all
abbrev pub word_before : List ℕ → Option ℕ → List ℕ
word_before line None = line
word_before line (Some place) = take place line

-- the first word of a line: the bytes before the first space
abbrev pub line_word : List ℕ → List ℕ
line_word line = word_before line (position (λ byte. byte == 32) line)

-- how a start is written
abbrev pub start_usage : Form → List ℕ
start_usage Numbers = codes "  write `start TABLE TIME VALUES`, as in `start emp 40 4,dan,toys`\n"
start_usage Dates = codes "  write `start TABLE TIME VALUES`, as in `start emp 2024-02-29 4,dan,toys`\n"

-- how an end is written
abbrev pub end_usage : Form → List ℕ
end_usage Numbers = codes "  write `end TABLE TIME VALUES`, as in `end emp 50 4,dan,toys`\n"
end_usage Dates = codes "  write `end TABLE TIME VALUES`, as in `end emp 2024-07-01 4,dan,toys`\n"

-- how the command with this name is written; nothing for another word
abbrev pub usage_of : Form → List ℕ → List ℕ
usage_of form word =
    if bytes_eq word (codes "start") then start_usage form
    else (if bytes_eq word (codes "end") then end_usage form
    else (if bytes_eq word (codes "publish") then codes "  write `publish` in lower case, with nothing after it\n"
    else (if bytes_eq word (codes "ask") then codes "  write `ask COUNT WORKERS STATEMENT` with 1 to 16 workers, as in `ask 9 1 VALIDTIME SELECT name FROM emp`\n" else [])))

-- the names that are listed for a word that is none of them
abbrev pub command_names : List (List ℕ)
command_names = codes "start" ∷ codes "end" ∷ codes "publish" ∷ codes "ask" ∷ codes "help" ∷ []

-- these names, after the one that is nearest
abbrev pub unknown_command_lines : List ℕ → List ℕ
unknown_command_lines word = nearest_hint word command_names ++ listed (codes "commands") command_names

-- how the command is written, or for nothing the names of the commands
abbrev pub usage_lines : List ℕ → List ℕ → List ℕ
usage_lines word usage = if nat_lt 0 (length usage) then usage else unknown_command_lines word

-- whether the word asks for help
abbrev pub is_help : List ℕ → Bool
is_help word = bytes_eq word (codes "help") || bytes_eq word (codes "?")

-- the line about starts in the help
abbrev pub start_help : Form → List ℕ
start_help Numbers = codes "  start TABLE TIME VALUES      a row starts, as in `start emp 40 4,dan,toys`\n"
start_help Dates = codes "  start TABLE TIME VALUES      a row starts, as in `start emp 2024-02-29 4,dan,toys`\n"

-- the line about ends in the help
abbrev pub end_help : Form → List ℕ
end_help Numbers = codes "  end TABLE TIME VALUES        it ends, as in `end emp 50 4,dan,toys`\n"
end_help Dates = codes "  end TABLE TIME VALUES        it ends, as in `end emp 2024-07-01 4,dan,toys`\n"

-- all commands, and how a session ends
abbrev pub help_text : Form → List ℕ
help_text form =
    start_help form ++ end_help form ++ codes "  publish                      starts and ends become visible to ask\n"
    ++ codes "  ask COUNT WORKERS STATEMENT  answers as of the first COUNT published events,\n"
    ++ codes "                               as in `ask 9 1 VALIDTIME SELECT name FROM emp`\n"
    ++ codes "  the end of the input ends the session; at a terminal this is Ctrl-D\n"

-- the message for the first word of a line in lower case
abbrev pub word_lines : Form → List ℕ → List ℕ
word_lines form word = if is_help word then help_text form else usage_lines word (usage_of form word)

-- The message for a line that is not a command.
abbrev pub command_detail : Form → List ℕ → List ℕ
command_detail form line = word_lines form (folded (line_word line))
