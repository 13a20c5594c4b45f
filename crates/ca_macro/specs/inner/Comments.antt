-- The words of a line whose first word begins with `#`.
use Rattle.ca_macro.specs.declared.line.comment.Comment.{Comment}
use Rattle.ca_macro.specs.declared.line.comment.Comment.TheVariants.{Nothing, Rule, Generation}
use Rattle.ca_macro.specs.File as text

-- what such a line says
abbrev pub said_of : Comment → text.MacrocellLine
said_of Nothing = text.Nothing
said_of (Rule word) = text.Rule word.now
said_of (Generation count) = text.Generation count
