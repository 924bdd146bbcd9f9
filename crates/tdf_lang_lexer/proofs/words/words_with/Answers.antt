use Rattle.std.proofs.Common.{refl}
use Rattle.tdf_lang_lexer.specs.Words.{key_of, spelling}
use Rattle.tdf_lang_lexer.proofs.words.words_with.Goals as goal

pub returns-in-97 : goal.returns-in-97
unfolding key_of spelling
returns-in-97 c = rw c.in-97.is (λ more. refl)

pub returns-in-98 : goal.returns-in-98
unfolding key_of spelling
returns-in-98 c = rw c.in-98.is (λ more. refl)

pub returns-in-99 : goal.returns-in-99
unfolding key_of spelling
returns-in-99 c = rw c.in-99.is (λ more. refl)

pub returns-in-100 : goal.returns-in-100
unfolding key_of spelling
returns-in-100 c = rw c.in-100.is (λ more. refl)

pub returns-in-101 : goal.returns-in-101
unfolding key_of spelling
returns-in-101 c = rw c.in-101.is (λ more. refl)

pub returns-in-102 : goal.returns-in-102
unfolding key_of spelling
returns-in-102 c = rw c.in-102.is (λ more. refl)

pub returns-in-105 : goal.returns-in-105
unfolding key_of spelling
returns-in-105 c = rw c.in-105.is (λ more. refl)

pub returns-in-108 : goal.returns-in-108
unfolding key_of spelling
returns-in-108 c = rw c.in-108.is (λ more. refl)

pub returns-in-110 : goal.returns-in-110
unfolding key_of spelling
returns-in-110 c = rw c.in-110.is (λ more. refl)

pub returns-in-111 : goal.returns-in-111
unfolding key_of spelling
returns-in-111 c = rw c.in-111.is (λ more. refl)

pub returns-in-112 : goal.returns-in-112
unfolding key_of spelling
returns-in-112 c = rw c.in-112.is (λ more. refl)

pub returns-in-114 : goal.returns-in-114
unfolding key_of spelling
returns-in-114 c = rw c.in-114.is (λ more. refl)

pub returns-in-115 : goal.returns-in-115
unfolding key_of spelling
returns-in-115 c = rw c.in-115.is (λ more. refl)

pub returns-in-116 : goal.returns-in-116
unfolding key_of spelling
returns-in-116 c = rw c.in-116.is (λ more. refl)

pub returns-in-117 : goal.returns-in-117
unfolding key_of spelling
returns-in-117 c = rw c.in-117.is (λ more. refl)

pub returns-in-118 : goal.returns-in-118
unfolding key_of spelling
returns-in-118 c = rw c.in-118.is (λ more. refl)

pub returns-in-119 : goal.returns-in-119
unfolding key_of spelling
returns-in-119 c = rw c.in-119.is (λ more. refl)

pub returns-in_default : goal.returns-in_default
unfolding key_of spelling
returns-in_default c = λ more. refl
