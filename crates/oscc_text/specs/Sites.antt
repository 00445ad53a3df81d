-- The C of sites: for each the call of its body, its items and its captured slots; and the table of all sites.
use Rattle.std.specs.Prelude.{ℕ, ◌+◌, Bool, true, false, List, [], ◌++◌, length, Option, Some, None, codes}
use Rattle.std.specs.Fmt.{decimal}
use Rattle.std.specs.List.{flat_map, range_with_len}
use Rattle.std.specs.Option.{option_map_or}
use Rattle.os_code.specs.declared.site.Site.{Site}
use Rattle.os_code.specs.declared.site.SiteItem.{SiteItem}
use Rattle.os_code.specs.declared.parts.Parts.{Parts}
use Rattle.os_code.specs.Parts.{site_at}
use Rattle.oscc_text.specs.Rows.{comma}

-- An item: 1 for an output item and else 0, its stream, and its window: 0, or the slot plus 1.
abbrev pub write_text : Bool → List ℕ
write_text true = codes "{1, "
write_text false = codes "{0, "

abbrev pub window_number : Option ℕ → ℕ
window_number None = 0
window_number (Some slot) = slot + 1

abbrev pub item_text : SiteItem → List ℕ
item_text item = write_text item.write ++ decimal item.stream ++ codes ", " ++ decimal (window_number item.window) ++ codes "}, "

-- a captured slot
abbrev pub slot_text : ℕ → List ℕ
slot_text slot = decimal slot ++ codes ", "

-- The captured scalars are the arguments of the task's unit.
abbrev pub scalar : ℕ → List ℕ
scalar number = comma number ++ codes "c[" ++ decimal number ++ codes "]"

abbrev pub scalars : ℕ → List ℕ
scalars count = flat_map scalar (range_with_len 0 count)

abbrev pub body_head : (number : ℕ) → Site → List ℕ
body_head number site =
    codes "static void site_" ++ decimal number ++ codes "(const int32_t *c)\n{\n    (void)c;\n    unit_" ++ decimal site.unit ++ codes "("

abbrev pub body_text : (number : ℕ) → Site → List ℕ
body_text number site = body_head number site ++ scalars (length site.captured) ++ codes ");\n}\n\n"

-- The lists of a site, each with zeros behind its members.
abbrev pub items_head : ℕ → List ℕ
items_head number = codes "static const struct os_item items_" ++ decimal number ++ codes "[] = {"

abbrev pub items_text : (number : ℕ) → Site → List ℕ
items_text number site = items_head number ++ flat_map item_text site.items ++ codes "{0, 0, 0}};\n"

abbrev pub captured_text : (number : ℕ) → Site → List ℕ
captured_text number site =
    codes "static const uint32_t captured_" ++ decimal number ++ codes "[] = {" ++ flat_map slot_text site.captured ++ codes "0};\n\n"

abbrev pub site_text : (number : ℕ) → Site → List ℕ
site_text number site = body_text number site ++ items_text number site ++ captured_text number site

abbrev pub site_text_at : Parts → ℕ → List ℕ
site_text_at code number = option_map_or (site_text number) (site_at code number) []

-- A line of the table: the body, the line, how many items and captured slots there are, and the two lists.
abbrev pub site_counts : (number : ℕ) → Site → List ℕ
site_counts number site =
    codes "    {site_" ++ decimal number ++ codes ", " ++ decimal site.line ++ codes ", " ++ decimal (length site.items) ++ codes ", "

abbrev pub site_lists : (number : ℕ) → Site → List ℕ
site_lists number site =
    decimal (length site.captured) ++ codes ", items_" ++ decimal number ++ codes ", captured_" ++ decimal number ++ codes "},\n"

abbrev pub site_line : (number : ℕ) → Site → List ℕ
site_line number site = site_counts number site ++ site_lists number site

abbrev pub site_line_at : Parts → ℕ → List ℕ
site_line_at code number = option_map_or (site_line number) (site_at code number) []

abbrev pub sites_text : Parts → List ℕ
sites_text code = flat_map (site_text_at code) (range_with_len 0 (length code.sites))

abbrev pub site_lines : Parts → List ℕ
site_lines code = flat_map (site_line_at code) (range_with_len 0 (length code.sites))

-- The table of sites.
abbrev pub table_text : Parts → List ℕ
table_text code = codes "const struct os_site os_sites[] = {\n" ++ site_lines code ++ codes "    {0, 0, 0, 0, 0, 0}};\n"
