-- The tokens that a cursor shows.
use Rattle.std.specs.Prelude.{List, map}
use Rattle.tq_sql.specs.declared.cursor.Cursor.TheInside.{Inside}
use Rattle.tq_sql.specs.Tokens.{Token}
use Rattle.tq_sql.specs.TokenViews.{token_view}

abbrev pub tokens_left : Inside → List Token
tokens_left cursor = map token_view cursor.rest.now
