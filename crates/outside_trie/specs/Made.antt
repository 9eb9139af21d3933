-- Figures of a dictionary of three keys, under the stand-in hash and under another (names that end in 2), made outside Rattle by the program `make`
-- beside this folder.
use Rattle.std.specs.Prelude.{[], ◌∷◌, ◌++◌, replicate}
use Rattle.lists.specs.Bytes.{Bytes}

-- the handle of the key "A"
unfoldable pub handle : Bytes
handle =
    3 ∷ 65 ∷ 0 ∷ 0 ∷ 0 ∷ 0 ∷ 0 ∷ 0 ∷ 0 ∷ 0 ∷ 0 ∷ 0 ∷ 0 ∷ 0 ∷ 0 ∷ 0 ∷
    0 ∷ 0 ∷ 0 ∷ 0 ∷ 0 ∷ 0 ∷ 0 ∷ 0 ∷ 0 ∷ 0 ∷ 0 ∷ 0 ∷ 0 ∷ 0 ∷ 0 ∷ 0 ∷ [] ++
    []

-- the handles of the keys "", "A" and "C", rising
unfoldable pub handles : Bytes
handles =
    3 ∷ 0 ∷ 0 ∷ 0 ∷ 0 ∷ 0 ∷ 0 ∷ 0 ∷ 0 ∷ 0 ∷ 0 ∷ 0 ∷ 0 ∷ 0 ∷ 0 ∷ 0 ∷
    0 ∷ 0 ∷ 0 ∷ 0 ∷ 0 ∷ 0 ∷ 0 ∷ 0 ∷ 0 ∷ 0 ∷ 0 ∷ 0 ∷ 0 ∷ 0 ∷ 0 ∷ 0 ∷ [] ++
    3 ∷ 65 ∷ 0 ∷ 0 ∷ 0 ∷ 0 ∷ 0 ∷ 0 ∷ 0 ∷ 0 ∷ 0 ∷ 0 ∷ 0 ∷ 0 ∷ 0 ∷ 0 ∷
    0 ∷ 0 ∷ 0 ∷ 0 ∷ 0 ∷ 0 ∷ 0 ∷ 0 ∷ 0 ∷ 0 ∷ 0 ∷ 0 ∷ 0 ∷ 0 ∷ 0 ∷ 0 ∷ [] ++
    3 ∷ 67 ∷ 0 ∷ 0 ∷ 0 ∷ 0 ∷ 0 ∷ 0 ∷ 0 ∷ 0 ∷ 0 ∷ 0 ∷ 0 ∷ 0 ∷ 0 ∷ 0 ∷
    0 ∷ 0 ∷ 0 ∷ 0 ∷ 0 ∷ 0 ∷ 0 ∷ 0 ∷ 0 ∷ 0 ∷ 0 ∷ 0 ∷ 0 ∷ 0 ∷ 0 ∷ 0 ∷ [] ++
    []

-- the root of these three
unfoldable pub root : Bytes
root =
    4 ∷ 3 ∷ 2 ∷ 0 ∷ 0 ∷ 0 ∷ 0 ∷ 0 ∷ 0 ∷ 0 ∷ 5 ∷ 5 ∷ 5 ∷ 5 ∷ 5 ∷ 0 ∷
    0 ∷ 0 ∷ 0 ∷ 0 ∷ 0 ∷ 0 ∷ 0 ∷ 0 ∷ 0 ∷ 0 ∷ 0 ∷ 0 ∷ 0 ∷ 0 ∷ 0 ∷ 0 ∷ [] ++
    []

-- the proof that "A" is there: 256 siblings
unfoldable pub there : Bytes
there =
    replicate 288 0 ++
    0 ∷ 0 ∷ 0 ∷ 0 ∷ 0 ∷ 0 ∷ 0 ∷ 0 ∷ 0 ∷ 0 ∷ 0 ∷ 0 ∷ 0 ∷ 0 ∷ 0 ∷ 0 ∷
    0 ∷ 0 ∷ 0 ∷ 0 ∷ 0 ∷ 0 ∷ 1 ∷ 6 ∷ 5 ∷ 5 ∷ 5 ∷ 5 ∷ 5 ∷ 5 ∷ 5 ∷ 5 ∷ [] ++
    replicate 128 0 ++
    0 ∷ 0 ∷ 0 ∷ 0 ∷ 0 ∷ 0 ∷ 0 ∷ 0 ∷ 0 ∷ 0 ∷ 0 ∷ 0 ∷ 0 ∷ 0 ∷ 0 ∷ 0 ∷
    0 ∷ 1 ∷ 6 ∷ 70 ∷ 5 ∷ 5 ∷ 5 ∷ 5 ∷ 5 ∷ 5 ∷ 5 ∷ 5 ∷ 5 ∷ 5 ∷ 5 ∷ 5 ∷ [] ++
    replicate 7712 0 ++
    []

-- the proof that "B" is not: 16 siblings
unfoldable pub absent : Bytes
absent =
    replicate 288 0 ++
    0 ∷ 0 ∷ 0 ∷ 0 ∷ 0 ∷ 0 ∷ 0 ∷ 0 ∷ 0 ∷ 0 ∷ 0 ∷ 0 ∷ 0 ∷ 0 ∷ 0 ∷ 0 ∷
    0 ∷ 0 ∷ 0 ∷ 0 ∷ 0 ∷ 0 ∷ 1 ∷ 6 ∷ 5 ∷ 5 ∷ 5 ∷ 5 ∷ 5 ∷ 5 ∷ 5 ∷ 5 ∷ [] ++
    replicate 128 0 ++
    0 ∷ 0 ∷ 0 ∷ 0 ∷ 0 ∷ 0 ∷ 0 ∷ 0 ∷ 0 ∷ 0 ∷ 0 ∷ 0 ∷ 0 ∷ 0 ∷ 0 ∷ 0 ∷
    0 ∷ 1 ∷ 6 ∷ 68 ∷ 5 ∷ 5 ∷ 5 ∷ 5 ∷ 5 ∷ 5 ∷ 5 ∷ 5 ∷ 5 ∷ 5 ∷ 5 ∷ 5 ∷ [] ++
    0 ∷ 0 ∷ 0 ∷ 0 ∷ 0 ∷ 0 ∷ 0 ∷ 0 ∷ 0 ∷ 0 ∷ 0 ∷ 0 ∷ 0 ∷ 0 ∷ 0 ∷ 0 ∷
    1 ∷ 6 ∷ 70 ∷ 5 ∷ 5 ∷ 5 ∷ 5 ∷ 5 ∷ 5 ∷ 5 ∷ 5 ∷ 5 ∷ 5 ∷ 5 ∷ 5 ∷ 5 ∷ [] ++
    []

-- the handle of the key "A"
unfoldable pub handle2 : Bytes
handle2 =
    0 ∷ 0 ∷ 0 ∷ 0 ∷ 0 ∷ 0 ∷ 0 ∷ 0 ∷ 0 ∷ 0 ∷ 0 ∷ 0 ∷ 0 ∷ 0 ∷ 0 ∷ 0 ∷
    0 ∷ 0 ∷ 0 ∷ 0 ∷ 0 ∷ 0 ∷ 0 ∷ 0 ∷ 0 ∷ 0 ∷ 0 ∷ 0 ∷ 0 ∷ 0 ∷ 3 ∷ 65 ∷ [] ++
    []

-- the handles of the keys "", "A" and "C", rising
unfoldable pub handles2 : Bytes
handles2 =
    0 ∷ 0 ∷ 0 ∷ 0 ∷ 0 ∷ 0 ∷ 0 ∷ 0 ∷ 0 ∷ 0 ∷ 0 ∷ 0 ∷ 0 ∷ 0 ∷ 0 ∷ 0 ∷
    0 ∷ 0 ∷ 0 ∷ 0 ∷ 0 ∷ 0 ∷ 0 ∷ 0 ∷ 0 ∷ 0 ∷ 0 ∷ 0 ∷ 0 ∷ 0 ∷ 0 ∷ 3 ∷ [] ++
    0 ∷ 0 ∷ 0 ∷ 0 ∷ 0 ∷ 0 ∷ 0 ∷ 0 ∷ 0 ∷ 0 ∷ 0 ∷ 0 ∷ 0 ∷ 0 ∷ 0 ∷ 0 ∷
    0 ∷ 0 ∷ 0 ∷ 0 ∷ 0 ∷ 0 ∷ 0 ∷ 0 ∷ 0 ∷ 0 ∷ 0 ∷ 0 ∷ 0 ∷ 0 ∷ 3 ∷ 65 ∷ [] ++
    0 ∷ 0 ∷ 0 ∷ 0 ∷ 0 ∷ 0 ∷ 0 ∷ 0 ∷ 0 ∷ 0 ∷ 0 ∷ 0 ∷ 0 ∷ 0 ∷ 0 ∷ 0 ∷
    0 ∷ 0 ∷ 0 ∷ 0 ∷ 0 ∷ 0 ∷ 0 ∷ 0 ∷ 0 ∷ 0 ∷ 0 ∷ 0 ∷ 0 ∷ 0 ∷ 3 ∷ 67 ∷ [] ++
    []

-- the root of these three
unfoldable pub root2 : Bytes
root2 =
    122 ∷ 91 ∷ 187 ∷ 130 ∷ 195 ∷ 223 ∷ 66 ∷ 144 ∷ 187 ∷ 49 ∷ 198 ∷ 254 ∷ 168 ∷ 8 ∷ 72 ∷ 228 ∷
    248 ∷ 49 ∷ 44 ∷ 174 ∷ 218 ∷ 0 ∷ 125 ∷ 71 ∷ 191 ∷ 206 ∷ 187 ∷ 13 ∷ 131 ∷ 21 ∷ 189 ∷ 248 ∷ [] ++
    []

-- the proof that "A" is there: 256 siblings
unfoldable pub there2 : Bytes
there2 =
    replicate 7872 0 ++
    0 ∷ 0 ∷ 0 ∷ 0 ∷ 0 ∷ 0 ∷ 0 ∷ 0 ∷ 0 ∷ 0 ∷ 0 ∷ 0 ∷ 0 ∷ 0 ∷ 0 ∷ 0 ∷
    0 ∷ 0 ∷ 0 ∷ 0 ∷ 0 ∷ 0 ∷ 0 ∷ 0 ∷ 0 ∷ 6 ∷ 3 ∷ 17 ∷ 30 ∷ 231 ∷ 211 ∷ 92 ∷ [] ++
    replicate 224 0 ++
    0 ∷ 0 ∷ 0 ∷ 0 ∷ 0 ∷ 0 ∷ 0 ∷ 0 ∷ 0 ∷ 0 ∷ 0 ∷ 0 ∷ 0 ∷ 0 ∷ 0 ∷ 0 ∷
    0 ∷ 0 ∷ 0 ∷ 0 ∷ 0 ∷ 0 ∷ 0 ∷ 0 ∷ 0 ∷ 0 ∷ 0 ∷ 0 ∷ 0 ∷ 0 ∷ 32 ∷ 15 ∷ [] ++
    replicate 32 0 ++
    []

-- the proof that "B" is not: 256 siblings
unfoldable pub absent2 : Bytes
absent2 =
    replicate 7872 0 ++
    0 ∷ 0 ∷ 0 ∷ 0 ∷ 0 ∷ 0 ∷ 0 ∷ 0 ∷ 0 ∷ 0 ∷ 0 ∷ 0 ∷ 0 ∷ 0 ∷ 0 ∷ 0 ∷
    0 ∷ 0 ∷ 0 ∷ 0 ∷ 0 ∷ 0 ∷ 0 ∷ 0 ∷ 0 ∷ 6 ∷ 3 ∷ 17 ∷ 30 ∷ 231 ∷ 211 ∷ 92 ∷ [] ++
    replicate 224 0 ++
    0 ∷ 0 ∷ 0 ∷ 0 ∷ 0 ∷ 0 ∷ 0 ∷ 0 ∷ 0 ∷ 0 ∷ 0 ∷ 0 ∷ 0 ∷ 0 ∷ 0 ∷ 0 ∷
    0 ∷ 0 ∷ 0 ∷ 0 ∷ 0 ∷ 0 ∷ 0 ∷ 0 ∷ 0 ∷ 0 ∷ 0 ∷ 0 ∷ 0 ∷ 0 ∷ 32 ∷ 13 ∷ [] ++
    0 ∷ 0 ∷ 0 ∷ 0 ∷ 0 ∷ 0 ∷ 0 ∷ 0 ∷ 0 ∷ 0 ∷ 0 ∷ 0 ∷ 0 ∷ 0 ∷ 0 ∷ 0 ∷
    0 ∷ 0 ∷ 0 ∷ 0 ∷ 0 ∷ 0 ∷ 0 ∷ 0 ∷ 0 ∷ 0 ∷ 0 ∷ 0 ∷ 0 ∷ 0 ∷ 3 ∷ 219 ∷ [] ++
    []

-- a made-up proof that "A" is not there: three siblings, of which the last differs
unfoldable pub lie2 : Bytes
lie2 =
    replicate 64 0 ++
    11 ∷ 19 ∷ 144 ∷ 158 ∷ 13 ∷ 65 ∷ 55 ∷ 228 ∷ 22 ∷ 210 ∷ 120 ∷ 222 ∷ 125 ∷ 253 ∷ 43 ∷ 78 ∷
    223 ∷ 141 ∷ 39 ∷ 54 ∷ 4 ∷ 13 ∷ 30 ∷ 148 ∷ 111 ∷ 255 ∷ 247 ∷ 67 ∷ 232 ∷ 221 ∷ 175 ∷ 146 ∷ [] ++
    []

-- the message of the node at depth 2 on the way of "A", as the proof that it is there has it
unfoldable pub one2 : Bytes
one2 =
    5 ∷ 7 ∷ 7 ∷ 64 ∷ 111 ∷ 242 ∷ 224 ∷ 8 ∷ 53 ∷ 41 ∷ 5 ∷ 137 ∷ 234 ∷ 232 ∷ 94 ∷ 61 ∷
    197 ∷ 113 ∷ 172 ∷ 34 ∷ 183 ∷ 80 ∷ 242 ∷ 223 ∷ 30 ∷ 218 ∷ 134 ∷ 188 ∷ 102 ∷ 214 ∷ 248 ∷ 92 ∷
    50 ∷ 0 ∷ 0 ∷ 0 ∷ 0 ∷ 0 ∷ 0 ∷ 0 ∷ 0 ∷ 0 ∷ 0 ∷ 0 ∷ 0 ∷ 0 ∷ 0 ∷ 0 ∷
    0 ∷ 0 ∷ 0 ∷ 0 ∷ 0 ∷ 0 ∷ 0 ∷ 0 ∷ 0 ∷ 0 ∷ 0 ∷ 0 ∷ 0 ∷ 0 ∷ 0 ∷ 0 ∷
    0 ∷
    []

-- and as the made-up proof has it
unfoldable pub other2 : Bytes
other2 =
    5 ∷ 0 ∷ 0 ∷ 0 ∷ 0 ∷ 0 ∷ 0 ∷ 0 ∷ 0 ∷ 0 ∷ 0 ∷ 0 ∷ 0 ∷ 0 ∷ 0 ∷ 0 ∷
    0 ∷ 0 ∷ 0 ∷ 0 ∷ 0 ∷ 0 ∷ 0 ∷ 0 ∷ 0 ∷ 0 ∷ 0 ∷ 0 ∷ 0 ∷ 0 ∷ 0 ∷ 0 ∷
    0 ∷ 11 ∷ 19 ∷ 144 ∷ 158 ∷ 13 ∷ 65 ∷ 55 ∷ 228 ∷ 22 ∷ 210 ∷ 120 ∷ 222 ∷ 125 ∷ 253 ∷ 43 ∷
    78 ∷ 223 ∷ 141 ∷ 39 ∷ 54 ∷ 4 ∷ 13 ∷ 30 ∷ 148 ∷ 111 ∷ 255 ∷ 247 ∷ 67 ∷ 232 ∷ 221 ∷ 175 ∷
    146 ∷
    []

-- a root that no list has
unfoldable pub zero_root2 : Bytes
zero_root2 =
    0 ∷ 0 ∷ 0 ∷ 0 ∷ 0 ∷ 0 ∷ 0 ∷ 0 ∷ 0 ∷ 0 ∷ 0 ∷ 0 ∷ 0 ∷ 0 ∷ 0 ∷ 0 ∷
    0 ∷ 0 ∷ 0 ∷ 0 ∷ 0 ∷ 0 ∷ 0 ∷ 0 ∷ 0 ∷ 0 ∷ 0 ∷ 0 ∷ 0 ∷ 4 ∷ 75 ∷ 236 ∷ [] ++
    []

-- a made-up proof that "A" is there, in which the node at depth 2 hashes to zeros
unfoldable pub zero_there2 : Bytes
zero_there2 =
    replicate 64 0 ++
    116 ∷ 236 ∷ 111 ∷ 97 ∷ 242 ∷ 190 ∷ 200 ∷ 27 ∷ 233 ∷ 45 ∷ 135 ∷ 33 ∷ 130 ∷ 2 ∷ 212 ∷ 177 ∷
    32 ∷ 114 ∷ 216 ∷ 201 ∷ 251 ∷ 242 ∷ 225 ∷ 107 ∷ 144 ∷ 0 ∷ 8 ∷ 188 ∷ 23 ∷ 34 ∷ 52 ∷ 39 ∷ [] ++
    replicate 7776 0 ++
    0 ∷ 0 ∷ 0 ∷ 0 ∷ 0 ∷ 0 ∷ 0 ∷ 0 ∷ 0 ∷ 0 ∷ 0 ∷ 0 ∷ 0 ∷ 0 ∷ 0 ∷ 0 ∷
    0 ∷ 0 ∷ 0 ∷ 0 ∷ 0 ∷ 0 ∷ 0 ∷ 0 ∷ 0 ∷ 6 ∷ 3 ∷ 17 ∷ 30 ∷ 231 ∷ 211 ∷ 92 ∷ [] ++
    replicate 224 0 ++
    0 ∷ 0 ∷ 0 ∷ 0 ∷ 0 ∷ 0 ∷ 0 ∷ 0 ∷ 0 ∷ 0 ∷ 0 ∷ 0 ∷ 0 ∷ 0 ∷ 0 ∷ 0 ∷
    0 ∷ 0 ∷ 0 ∷ 0 ∷ 0 ∷ 0 ∷ 0 ∷ 0 ∷ 0 ∷ 0 ∷ 0 ∷ 0 ∷ 0 ∷ 0 ∷ 32 ∷ 15 ∷ [] ++
    replicate 32 0 ++
    []

-- and a proof that it is not: the two siblings above that node
unfoldable pub zero_absent2 : Bytes
zero_absent2 =
    replicate 64 0 ++
    []

-- the message of that node
unfoldable pub zero_one2 : Bytes
zero_one2 =
    5 ∷ 7 ∷ 7 ∷ 64 ∷ 111 ∷ 242 ∷ 224 ∷ 8 ∷ 53 ∷ 41 ∷ 5 ∷ 137 ∷ 234 ∷ 232 ∷ 94 ∷ 61 ∷
    197 ∷ 113 ∷ 172 ∷ 34 ∷ 183 ∷ 80 ∷ 242 ∷ 223 ∷ 30 ∷ 218 ∷ 134 ∷ 188 ∷ 102 ∷ 214 ∷ 248 ∷ 92 ∷
    50 ∷ 116 ∷ 236 ∷ 111 ∷ 97 ∷ 242 ∷ 190 ∷ 200 ∷ 27 ∷ 233 ∷ 45 ∷ 135 ∷ 33 ∷ 130 ∷ 2 ∷ 212 ∷
    177 ∷ 32 ∷ 114 ∷ 216 ∷ 201 ∷ 251 ∷ 242 ∷ 225 ∷ 107 ∷ 144 ∷ 0 ∷ 8 ∷ 188 ∷ 23 ∷ 34 ∷ 52 ∷
    39 ∷
    []
