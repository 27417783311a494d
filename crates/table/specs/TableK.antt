-- Table K (document 01, 'Table K, and what it gives'), its text and what it means; and K written with every liberty
-- that the grammar allows.
-- Cases: proofs/TextCases.antt
use Rattle.std.specs.Prelude.{ℕ, List, [], ◌∷◌, ◌++◌, set, replicate}
use Rattle.std.proofs.Math.Option.{none}
use Rattle.lists.specs.Ascii.{ascii}
use Rattle.table.specs.Cells.{illegal, ends, ends_unassigned, leads}
use Rattle.table.specs.Meaning.{Table}
use Rattle.table.specs.Load.{line_as}

-- table K
unfoldable pub k_text : List ℕ
k_text =
    ascii "<code_set_name> \"kettle-1\"\n"
    ++ ascii "<mb_cur_min> 1\n"
    ++ ascii "<mb_cur_max> 2\n"
    ++ ascii "<uconv_class> \"MBCS\"\n"
    ++ ascii "<subchar> \\x3F\n"
    ++ ascii "<icu:state> 2d, 30, 33, 3f, 81:1\n"
    ++ ascii "<icu:state> 7c-7d, 80.u\n"
    ++ ascii "CHARMAP\n"
    ++ ascii "<U002D> \\x2D |0\n"
    ++ ascii "<U0030> \\x30 |0\n"
    ++ ascii "<U0033> \\x33 |0\n"
    ++ ascii "<U2212> \\x81\\x7C |0\n"
    ++ ascii "<UFF0D> \\x81\\x7C |1\n"
    ++ ascii "<U2212> \\x81\\x7D |3\n"
    ++ ascii "END CHARMAP\n"

-- what K means: in row 0 the bytes 2d, 30, 33 and 3f end a code and 81 leads on to row 1, where 7c and 7d end it, and
-- 80 as unassigned
unfoldable pub table_k : Table
table_k =
    record {
      rows =
          set (set (set (set (set (replicate 256 illegal) 0x2d ends) 0x30 ends) 0x33 ends) 0x3f ends) 0x81 (leads 1)
          ∷ set (set (set (replicate 256 illegal) 0x7c ends) 0x7d ends) 0x80 ends_unassigned
          ∷ [];
      lines =
          line_as 0x2212 (0x81 ∷ 0x7d ∷ []) 3
          ∷ line_as 0xff0d (0x81 ∷ 0x7c ∷ []) 1
          ∷ line_as 0x2212 (0x81 ∷ 0x7c ∷ []) 0
          ∷ line_as 0x33 (0x33 ∷ []) 0
          ∷ line_as 0x30 (0x30 ∷ []) 0
          ∷ line_as 0x2d (0x2d ∷ []) 0
          ∷ [];
      min = 1;
      max = 2;
      subchar = 0x3f ∷ [];
      subchar1 = none;
    }

-- K again: tabs and no blanks around tokens, lines that end in CR LF, LF and not at all, comments (with bytes from 80
-- up) behind every kind of line, blank lines, quotes that are open, that hold `#`, CR and bytes from 80 up, ignored
-- keys with quotes, digits of either case, entries that later ones overwrite, `initial`, a next row 0, no indicator,
-- code points of two and of six digits
unfoldable pub free_text : List ℕ
free_text =
    ascii "# K, façon libre\r\n"
    ++ ascii "\r\n"
    ++ ascii "\t <code_set_name>\"kettle #1 é\r\"  # name\n"
    ++ ascii "<mb_cur_min>\t1 # one\r\n"
    ++ ascii "<mb_cur_max>2\n"
    ++ ascii "<a\"b> \"café # \r\" \t# \"\n"
    ++ ascii "<uconv_class>\t\"MBCS\r\n"
    ++ ascii "<U0041> \"open ÿ #\n"
    ++ ascii "<subchar> \\x3f\t#\r\n"
    ++ ascii "<icu:state>initial ,2D,30\t-\t3F . i, 30:0., 33 .,3f , 81 : 1\n"
    ++ ascii "  <icu:state> 7c-7D,80.u# u\n"
    ++ ascii " \t\n"
    ++ ascii "\tCHARMAP # \"\r\n"
    ++ ascii "<U2D>\\x2d\n"
    ++ ascii "\t<U000030> \\x30 |0 # zero\r\n"
    ++ ascii "#\n"
    ++ ascii "<U33>\t\\x33\t|0\t\n"
    ++ ascii "<U2212>\\x81 \\x7c|0#\n"
    ++ ascii " <Uff0d> \\x81\\x7C |1\r\n"
    ++ ascii "<U2212>\t\\x81\t\\x7D|3\n"
    ++ ascii "END \t CHARMAP# end\n"
    ++ ascii "\n"
    ++ ascii "# the last line has no end"
