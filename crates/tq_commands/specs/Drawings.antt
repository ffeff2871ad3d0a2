-- An answer as a picture. This project's own.
use Rattle.std.specs.Prelude.{ℕ, List}
use Rattle.tq_cli.specs.declared.request.PictureFormat.{PictureFormat}
use Rattle.tq_cli.specs.declared.request.PictureFormat.TheVariants.{Html, Svg, Text}
use Rattle.tq_draw.specs.Html.{html_of}
use Rattle.tq_draw.specs.Pictures.{picture_of}
use Rattle.tq_draw.specs.Svg.{svg_of}
use Rattle.tq_table.specs.declared.table.Table.{Table}
use Rattle.tq_commands.specs.declared.drawing.Drawing.{Drawing}

-- the picture of a table in a format
abbrev pub text_in : PictureFormat → Drawing → List ℕ → Table → List ℕ
text_in Text drawing statement table = picture_of drawing.form drawing.width drawing.window table
text_in Svg drawing statement table = svg_of drawing.form drawing.width drawing.window table
text_in Html drawing statement table = html_of drawing.form drawing.width drawing.window statement table

-- the picture of a table, which is the answer of the statement
abbrev pub drawn_text : Drawing → List ℕ → Table → List ℕ
drawn_text drawing statement table = text_in drawing.format drawing statement table
