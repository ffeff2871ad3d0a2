-- How contracts see the code's tokens.
use Rattle.tq_sql.specs.declared.token.Token.{Token as Kept}
use Rattle.tq_sql.specs.Tokens.{Token}

-- a token with its bytes instead of a reference to them
abbrev pub token_view : Kept → Token
token_view t = record { at = t.at; kind = t.kind; text = t.text.now }
