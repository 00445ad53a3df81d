-- What is round a body, as the functions of the program have it.
use Rattle.std.specs.Prelude.{List, [], Option, Some, None, true, map, is_some}
use Rattle.std.specs.Option.{option_copied}
use Rattle.cddf_meaning.specs.Functions.{file_of}
use Rattle.cddf_meaning.specs.Run.{Around}
use Rattle.cddf_meaning.specs.declared.site.Site.{Site}
use Rattle.os_ast.specs.Trees as tree
use Rattle.os_ast.specs.Views.{item_tree}
use Rattle.os_ast.specs.declared.program.Item.{Item}
use Rattle.cddf_meaning_plain_tasks.specs.declared.around.Around as around

abbrev pub sites_in : Option (List Site) → List Site
sites_in None = []
sites_in (Some sites) = sites

abbrev pub around_in : List Item → Option (List Site) → Around
around_in items control = record { file = file_of (map item_tree items); is_control = is_some control; sites = sites_in control }

abbrev pub around_of : around.Around → Around
around_of u = around_in u.file.now (option_copied u.control)

-- what the body of `main` has round it: the items of the file, and the program's tasks
abbrev pub round_sites : List tree.ItemTree → List Site → Around
round_sites items sites = record { file = file_of items; is_control = true; sites = sites }
