-- The C of a code.
use Rattle.std.specs.Prelude.{ℕ, List, ◌++◌, codes}
use Rattle.std.specs.Fmt.{decimal}
use Rattle.os_code.specs.declared.parts.Parts.{Parts}
use Rattle.oscc_text.specs.Units.{units_text}
use Rattle.oscc_text.specs.Sites.{sites_text, table_text}

-- How many streams there are, and `main`, whose argument is the length of the input.
abbrev pub main_text : Parts → List ℕ
main_text code =
    codes "const uint32_t os_streams = " ++ decimal code.streams ++ codes ";\n\nvoid os_main(int32_t length)\n{\n    unit_" ++ decimal code.main
    ++ codes "(length);\n}\n"

-- What is written for the parts of a code: the functions of its units, its sites, and what tells the runtime of them.
unfoldable pub c_of : Parts → List ℕ
c_of code = codes "#include \"osrt.h\"\n\n" ++ units_text code ++ sites_text code ++ table_text code ++ main_text code
