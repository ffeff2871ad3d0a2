-- What commands and arguments clap reads, from the clauses of the calls that make them.
use Rattle.std.proofs.Common.{Bor, List, Result, Some, codes, inl, inr, subst, ◌≡◌, ◌==◌, ◌&&◌, ◌∙◌, Bool, true, false, is_some, length, not, ap, ap₂, refl}
use Rattle.clap.specs.Words.{AddsArg, AddsSubcommand, App, FailsBy, HasKind, HasMatchesOf, Rule, Shape, Text, app_of, fault_of, is_simple, is_simple_and_free, kind_of, new_app, rule_of, subcommand_of, subcommand_rows_of, with_rule, with_subcommand}
use Rattle.clap.specs.Simple.{app_of_fields, on_top}
use Rattle.clap.specs.declared.builder.command.Command.TheViews.{out-Command}
use Rattle.clap.specs.declared.error.Error.{Error}
use Rattle.clap.specs.declared.parser.matches.ArgMatches.{ArgMatches}
use Rattle.clap.proofs.OnLiterals.{clap_on_literals}
use Rattle.tq_cli.specs.Apps.{program_app, tq_app}
use Rattle.tq_cli.specs.CommandLine.{IsInvalid, IsPrintOf, IsRequestIn, IsUsageFault}
use Rattle.tq_cli.specs.declared.request.Request.{Request}
use Rattle.tq_cli.specs.declared.request.Request.TheVariants.{Print, Ask, Draw, Total, Calendar, Check, Session, Import, Split, Merge}
use Rattle.clap.specs.declared.builder.arg.Arg.{Arg}
use Rattle.clap.specs.declared.builder.command.Command.{Command}
use Rattle.clap.proofs.SimpleLemmas.{plain_fields}
use Rattle.clap.proofs.WalkLemmas.{both}

not_true : (b : Bool) → not b ≡ true → b ≡ false
not_true false e = refl
not_true true e = cc

second : (a b : Bool) → (a && b) ≡ true → b ≡ true
second a b e = (both a b e).1

-- The last of ten tests that all hold.
tenth : (a b c d e f g h i j : Bool)
    → (a && (b && (c && (not d && (not e && (not f && (not g && (not h && (not i && not j))))))))) ≡ true → j ≡ false
tenth a b c d e f g h i j all =
    let one = second a (b && (c && (not d && (not e && (not f && (not g && (not h && (not i && not j)))))))) all in
    let two = second b (c && (not d && (not e && (not f && (not g && (not h && (not i && not j))))))) one in
    let three = second c (not d && (not e && (not f && (not g && (not h && (not i && not j)))))) two in
    let four = second (not d) (not e && (not f && (not g && (not h && (not i && not j))))) three in
    let five = second (not e) (not f && (not g && (not h && (not i && not j)))) four in
    let six = second (not f) (not g && (not h && (not i && not j))) five in
    let seven = second (not g) (not h && (not i && not j)) six in
    let eight = second (not h) (not i && not j) seven in
    let nine = second (not i) (not j) eight in
    not_true j nine

local_arg : (a : Arg) → (rule_of a).is_simple ≡ true → a.global ≡ false
local_arg a e = tenth (length a.overrides.items == 0) (length a.default_vals_ifs.items == 0) (length a.groups.items == 0) (is_some a.val_delim)
    (is_some a.terminator) a.allow_hyphen_values a.allow_negative_numbers a.require_equals a.last a.global e

-- A command with one more argument.
pub with_arg : (old new : Command) (a : Arg) (before : App) (r : Rule) → app_of old ≡ before → rule_of a ≡ r → r.is_simple ≡ true
    → AddsArg old a new → app_of new ≡ with_rule before r
with_arg old new a before r is rule simple added =
    added.shape (local_arg a (ap (λ (x : Rule). x.is_simple) rule ∙ simple)) ∙ ap₂ with_rule is rule

-- A command with one more subcommand.
pub with_sub : (old sub new : Command) (before inner : App) → app_of old ≡ before → app_of sub ≡ inner → inner.top.is_plain ≡ true
    → AddsSubcommand old sub new → app_of new ≡ with_subcommand before inner.top
with_sub old sub new before inner is sub_is plain added =
    let top = ap (λ (a : App). a.top) sub_is in
    let whole = ap (λ (a : App). a.top.is_plain) sub_is ∙ plain in
    added.shape (plain_fields sub whole).globals ∙ ap₂ with_subcommand is top

-- The settings of the program leave the rest of it as it is.
pub with_settings : (c v a h n b r : Command) → app_of c ≡ new_app (codes "tq")
    → (t : Bor Text) → out-Command v ≡ record (out-Command c) { version = Some t }
    → (u : Bor Text) → out-Command a ≡ record (out-Command v) { about = Some u }
    → (w : Bor Text) → out-Command h ≡ record (out-Command a) { after_help = Some w }
    → out-Command n ≡ record (out-Command h) { no_binary_name = true }
    → out-Command b ≡ record (out-Command n) { bin_name = (out-Command b).bin_name }
    → out-Command r ≡ record (out-Command b) { subcommand_required = true }
    → app_of r ≡ program_app
with_settings c v a h n b r is t version u about w help no_name name required =
    ap app_of_fields required
    ∙ ap (on_top (λ (s : Shape). record s { subcommand_required = true }))
    (ap app_of_fields name ∙ ap app_of_fields no_name
    ∙ ap (on_top (λ (s : Shape). record s { no_binary_name = true }))
    (ap app_of_fields help ∙ ap app_of_fields about ∙ ap app_of_fields version
    ∙ ap (on_top (λ (s : Shape). record s { has_version = true })) is))

simple_tq : is_simple tq_app ≡ true
unfolding clap_on_literals
simple_tq = refl

free_tq : is_simple_and_free tq_app ≡ true
unfolding clap_on_literals
free_tq = refl

-- The kinds of fault with which the parse fails, and the subcommand that it finds.
pub tq_fails : (c : Command) (words : List Text) (r : Result ArgMatches Error) → app_of c ≡ tq_app
    → (is_simple_and_free (app_of c) ≡ true → FailsBy (fault_of (app_of c) words) r) → FailsBy (fault_of tq_app words) r
tq_fails c words r is fails =
    subst (λ (a : App). FailsBy (fault_of a words) r) is (fails (ap is_simple_and_free is ∙ free_tq))

pub tq_finds : (c : Command) (words : List Text) (m : ArgMatches) → app_of c ≡ tq_app → HasMatchesOf (app_of c) words m
    → subcommand_rows_of m ≡ subcommand_of tq_app words
tq_finds c words m is has =
    (has (ap is_simple is ∙ simple_tq)).1 ∙ ap (λ (a : App). subcommand_of a words) is

pub printed_by : (words : List Text) (e : Error) (request : Request) → HasKind (fault_of tq_app words) e → IsPrintOf (kind_of e) request
    → IsRequestIn words request
printed_by words e (Print text) (inr among) p = inr (kind_of e, among, p)
printed_by words e (Print text) (inl memory) (inl help) = cc
printed_by words e (Print text) (inl memory) (inr version) = cc
printed_by words e (Ask ask) kind p = absurd p
printed_by words e (Draw draw) kind p = absurd p
printed_by words e (Total total) kind p = absurd p
printed_by words e (Calendar calendar) kind p = absurd p
printed_by words e (Check check) kind p = absurd p
printed_by words e (Session session) kind p = absurd p
printed_by words e (Import request) kind p = absurd p
printed_by words e (Split request) kind p = absurd p
printed_by words e (Merge request) kind p = absurd p

pub refused_by : (words : List Text) (e : Error) → HasKind (fault_of tq_app words) e → IsUsageFault (kind_of e) → IsInvalid words
refused_by words e (inl memory) usage = absurd (usage.2 memory)
refused_by words e (inr among) usage = inl (kind_of e, among, usage)
